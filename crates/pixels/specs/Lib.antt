-- Pixels and the edges between neighbouring pixels.
pub mod Pixel
pub mod Edge
-- proved of the definitions above, for the crates that use them
pub mod Laws
pub mod Answer
