use Rattle.load_maker.proofs.LoadScripts.{load-is-script}
use Rattle.load_maker.proofs.LoadParts.{load-parts}
use Rattle.load_maker.proofs.LoadWeights.{load-count, load-weight}
use Rattle.load_maker.proofs.laws.loads_are_scripts.Goals as goal

pub returns-clause-script : goal.returns-clause-script
returns-clause-script c n = load-is-script n

pub returns-clause-jobs : goal.returns-clause-jobs
returns-clause-jobs c n = load-count n

pub returns-clause-total : goal.returns-clause-total
returns-clause-total c n = load-weight n

pub returns-clause-parts : goal.returns-clause-parts
returns-clause-parts c n = load-parts n
