-- Lemmas that several proofs cite.
pub mod Reaching
pub mod Scans
