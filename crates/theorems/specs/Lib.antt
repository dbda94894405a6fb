-- Demand 3 as one statement, what a type says of `bwd`, and the marked examples of 01. Nothing here runs.
pub mod Gradients
pub mod Demand3
pub mod Types
pub mod Examples
