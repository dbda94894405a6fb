-- 01, "Values and their backward pass": what one pixel adds in `interpolate_bwd`.
pub mod Additions
pub mod Answer
