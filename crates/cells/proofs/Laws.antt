-- Laws of the definitions.
pub mod Weights
pub mod Numbers
pub mod Pixels
pub mod Cells
pub mod Put
pub mod Kept
