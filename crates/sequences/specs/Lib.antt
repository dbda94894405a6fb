-- 01, "Demand 3's words": sequences of clears, draws and joins on layers, and what is said of what is left of them. Nothing here runs.
pub mod Calls
pub mod Plan
pub mod Whole
pub mod Mesh
pub mod Redrawn
pub mod Thinned
pub mod Case
pub mod Sources
pub mod Bracketing
pub mod Example
