-- What the code's corners stand for.
pub mod Answer
