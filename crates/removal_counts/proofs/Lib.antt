-- Lemmas of the loop over the pixels.
pub mod Counting
