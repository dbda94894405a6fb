-- what the proofs share
pub mod Gathered
