-- 01, "Values and their backward pass": the values of one pixel.
pub mod Pixel
