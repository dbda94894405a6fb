-- The laws that the proofs of the root cite.
pub mod Whole
pub mod Signed
pub mod Algorithm
pub mod Fields
pub mod Standard
