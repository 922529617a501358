-- Contents rise.
pub mod Rising
pub mod RisingCommits
pub mod RisingPuts
pub mod RisingShown
pub mod RisingTrees
