mod Backs
mod Passes
mod Running
mod RunLemmas
mod TestLemmas
mod WorkerLemmas
