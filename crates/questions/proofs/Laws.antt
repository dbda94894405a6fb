-- Proved of the questions in a row, for the crates that ask them.
pub mod Opening
pub mod Refusals
