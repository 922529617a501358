pub mod Contents
pub mod Headline
pub mod Laws
pub mod Rising
pub mod Seen
pub mod Told
