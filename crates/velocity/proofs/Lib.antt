-- laws that the proofs share
pub mod Places
pub mod Calls
