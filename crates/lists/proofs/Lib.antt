-- for the crates above
pub mod Ranges
