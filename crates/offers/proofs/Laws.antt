-- Laws of the definitions.
pub mod Order
pub mod Greatest
pub mod Joins
pub mod Removal
pub mod Renaming
pub mod Faces
pub mod Thinning
