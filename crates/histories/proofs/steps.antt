-- What single calls do to hosts, slots and rows.
pub mod BayRows
pub mod HostTasks
pub mod LeftSlots
pub mod SameNumbers
