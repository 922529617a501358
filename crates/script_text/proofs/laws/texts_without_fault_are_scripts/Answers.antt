use Rattle.script_text.proofs.Complete.{no-fault-text}
use Rattle.script_text.proofs.laws.texts_without_fault_are_scripts.Goals as goal

pub returns : goal.returns
returns c = no-fault-text
