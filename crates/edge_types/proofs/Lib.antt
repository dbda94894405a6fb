-- laws that the proofs share
pub mod Filling
pub mod Kept
