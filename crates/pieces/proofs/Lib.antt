-- Lemmas that several proofs cite.
pub mod Faces
