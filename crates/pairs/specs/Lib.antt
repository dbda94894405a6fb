-- 01, "Edges": what both passes over pairs of neighbouring pixels share.
pub mod Pairs
pub mod Gradient
pub mod Steps
pub mod Answer
pub mod Values
-- proved of the definitions above
pub mod Laws
