-- Requests are bounded: what a host may still ask, and its quotas.
pub mod AskedRows
pub mod Awake
pub mod BoundsClocks
pub mod BoundsCounts
pub mod BoundsHistory
pub mod BoundsMeasures
pub mod BoundsStart
pub mod BoundsTakes
pub mod BoundsTries
pub mod Quotas
pub mod RunQuotas
pub mod ScriptLemmas
