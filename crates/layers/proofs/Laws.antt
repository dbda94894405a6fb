-- Laws of the definitions.
pub mod Answers
