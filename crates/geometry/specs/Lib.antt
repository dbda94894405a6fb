-- 01, "Leaves": each formula once, over any arithmetic, and what the code makes of it at f32.
pub mod Arith
pub mod Vector
pub mod Formula
pub mod Leaf
pub mod Answer
