-- laws that the proofs share
pub mod Laws
pub mod Kept
pub mod Turns
