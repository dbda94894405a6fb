-- What the steps that add a pair's shares promise.
pub mod Steps
