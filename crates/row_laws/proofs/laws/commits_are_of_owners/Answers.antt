use Rattle.row_laws.proofs.commits.OwnedCommits.{commits_are_of_owners}
use Rattle.row_laws.proofs.laws.commits_are_of_owners.Goals as goal

pub returns : goal.returns
returns c = commits_are_of_owners
