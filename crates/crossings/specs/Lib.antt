-- 01, "Edges": how the intersection of two faces moves.
pub mod Crossing
