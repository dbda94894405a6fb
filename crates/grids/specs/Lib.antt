-- 01, "Edges": the values on the edges of an axis as a grid, and the value between four of its places.
pub mod Cell
pub mod Grid
pub mod Steps
