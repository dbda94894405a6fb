-- Lemmas that several proofs cite.
pub mod Order
pub mod Columns
