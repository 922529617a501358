-- Hosts that have run beside each other, and the history that the merge of their journals is.
pub mod AskedHosts
pub mod ComeBack
pub mod MergedRuns
