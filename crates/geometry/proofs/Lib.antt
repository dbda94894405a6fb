-- Lemmas that several proofs cite.
pub mod Tested
