-- 01, "Ray and plane": each formula once, over any arithmetic, and the ray of a pixel at f32.
pub mod Space
pub mod Plane
pub mod Pixel
pub mod Answer
