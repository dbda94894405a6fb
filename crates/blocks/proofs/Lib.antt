-- Lemmas that several proofs cite.
pub mod Centres
pub mod Down
pub mod One
pub mod Going
pub mod Four
