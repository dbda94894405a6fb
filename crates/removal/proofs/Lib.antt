-- Lemmas that the proofs cite.
pub mod Accepted
