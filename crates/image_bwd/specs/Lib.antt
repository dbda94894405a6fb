-- 01, "Values and their backward pass": the pixels in rising number.
pub mod Summed
pub mod Answer
