-- Question 9 asked of pixels.
pub mod Steps
