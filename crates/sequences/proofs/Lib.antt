-- what is proved of the definitions, for the crates above
pub mod Whole
pub mod Mesh
pub mod Redrawn
pub mod Thinned
pub mod Case
pub mod Sources
pub mod Bracketing
pub mod Instance
pub mod FrontInstance
pub mod TwoRuns
