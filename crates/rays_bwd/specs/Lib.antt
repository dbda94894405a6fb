-- 01, "Ray and plane", the way back: each formula once, over any arithmetic.
pub mod Backward
pub mod Answer
