pub mod Failing
pub mod OnFile
