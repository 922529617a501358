pub mod contents
pub mod examples
pub mod reads
pub mod results
pub mod rising
pub mod serial
