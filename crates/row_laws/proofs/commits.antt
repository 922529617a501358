-- Who gives a unit its content.
pub mod CommitTrees
pub mod OwnedCommits
