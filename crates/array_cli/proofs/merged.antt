-- The report of the simulator for a script with other turn lines.
pub mod OtherTurnLines
pub mod MergedReports
