-- Laws of the definitions.
pub mod Paint
pub mod Centre
pub mod Finite
pub mod Instead
pub mod Unscanned
pub mod Facing
pub mod Load
pub mod Order
pub mod Visits
pub mod Visited
