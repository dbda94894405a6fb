-- The rays of an image's pixels, and what the code's views stand for.
pub mod Rays
pub mod Answer
-- proved of the definitions above, for the crates that use them
pub mod Laws
