-- The laws that the proofs of the float tools cite.
pub mod Closest
pub mod Values
pub mod Narrow
pub mod NarrowLaws
