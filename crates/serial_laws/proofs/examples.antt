-- Small plays, and what they commit.
pub mod CommitRows
