-- a law that the proofs cite
pub mod Turns
