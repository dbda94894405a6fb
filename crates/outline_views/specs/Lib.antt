-- 02, Point 1: what both outline passes see, what they ask, and the crossings of an edge.
pub mod Outline
pub mod Steps
pub mod Answer
-- proved of the definitions above
pub mod Laws
