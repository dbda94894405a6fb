-- 01, "Values and their backward pass": the gradients of one pixel in `interpolate_bwd`.
pub mod Gather
pub mod Gradients
-- proved of the definitions above
pub mod Laws
