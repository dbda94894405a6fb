-- 01, "Edges": the type of a pair of neighbouring pixels, and the buffers of an axis.
pub mod Types
pub mod Axis
pub mod Steps
pub mod Lent
