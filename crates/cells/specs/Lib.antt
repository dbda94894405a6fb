-- 01, "Drawing": a layer's pixels.
pub mod Cell
pub mod Layer
pub mod Steps
pub mod Lent
