-- laws that the proofs share
pub mod Asked
