use Rattle.std.proofs.Common.{◌≤◌, length}
use Rattle.report_text.proofs.NameKeys.{name-short}
use Rattle.report_text.proofs.reading.drafts.key_of.Goals as goal

pub filled-requires : goal.filled-requires
filled-requires c = name-short c.as_bytes.result.now c.as_bytes.ensures.name
