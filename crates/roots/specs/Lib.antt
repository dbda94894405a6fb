-- What the square root answers (01, "Float tools").
pub mod Root
pub mod Steps
-- of patterns, for the proofs of this crate and of those above it
pub mod Laws
