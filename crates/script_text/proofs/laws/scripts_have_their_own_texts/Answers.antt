use Rattle.script_text.proofs.Complete.{one-text}
use Rattle.script_text.proofs.laws.scripts_have_their_own_texts.Goals as goal

pub returns : goal.returns
returns c = one-text
