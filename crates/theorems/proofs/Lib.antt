-- proved of the definitions
pub mod Passes
pub mod Labels
pub mod Gradients
pub mod Demand3
pub mod Types
pub mod Examples
