-- 01, question 9: whether `barycentric_world` has an answer wherever the Rust unwraps it.
pub mod Unwraps
pub mod Steps
