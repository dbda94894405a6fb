-- Meshes in flat slices, what a pass may see of a map, and sums into an accumulator.
pub mod Mesh
pub mod View
pub mod Sums
pub mod Sound
pub mod Answer
-- proved of the definitions above
pub mod Laws
