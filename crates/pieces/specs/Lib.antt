-- What the code's pieces stand for.
pub mod Answer
