-- Lemmas that several proofs cite.
pub mod Lanes
pub mod Sides
