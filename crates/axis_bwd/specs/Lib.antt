-- 01, "Edges": what the pairs of an axis add.
pub mod Additions
