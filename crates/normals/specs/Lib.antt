-- 01, "Unit normal": the direction of a triangle's plane.
pub mod Normal
