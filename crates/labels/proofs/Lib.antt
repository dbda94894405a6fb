-- proved of the definitions, for the proofs of this crate and of those above it
pub mod Laws
pub mod Screen
pub mod Told
-- lemmas of the loop over the pixels
pub mod Filling
