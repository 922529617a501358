use Rattle.script_text.proofs.Complete.{no-fault-read, same-read}
use Rattle.script_text.proofs.read.read_script.Goals as goal

pub returns-clause-same : goal.returns-clause-same
returns-clause-same c = same-read c.args.bytes.now c.read_text.result c.read_text.ensures.script

pub returns-clause-no_fault : goal.returns-clause-no_fault
returns-clause-no_fault c = no-fault-read c.args.bytes.now c.read_text.result c.read_text.ensures.bad
