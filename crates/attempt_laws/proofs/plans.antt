-- Writes are granted as many cells as their plans read.
pub mod PlanTrees
