-- 01, "Values and their backward pass": the outcome of `interpolate`.
pub mod Interpolate
pub mod Filled
-- proved of the definitions above
pub mod Laws
