-- laws that the proofs share
pub mod Narrowing
pub mod Lines
pub mod Sides
pub mod Misses
