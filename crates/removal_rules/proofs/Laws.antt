-- Laws of the definitions.
pub mod Drawings
pub mod Pixels
pub mod Counts
pub mod Emptied
pub mod Preview
