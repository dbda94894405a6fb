-- 01, "Values and their backward pass": the outcome of `interpolate_bwd`.
pub mod Bwd
-- proved of the definitions above, for the proofs of this crate and of those above it
pub mod Laws
