use Rattle.slot_rules.proofs.RuleLaws.{faults_lem}
use Rattle.slot_rules.proofs.laws.faults_come_of_stores.Goals as goal

pub returns : goal.returns
returns c = faults_lem
