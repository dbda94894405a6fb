-- 01, "Projection": how a projected point moves with its point.
pub mod Formula
pub mod Answer
