-- Laws of numbers, NaNs and bit patterns.
pub mod Neighbours
pub mod Nan
pub mod Pattern
