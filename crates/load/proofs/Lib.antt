-- Lemmas that several proofs cite.
pub mod Pixels
pub mod Counted
pub mod Accepted
