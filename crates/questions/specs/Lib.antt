-- 01, "The questions, in order": what a call asks before it writes.
pub mod Questions
pub mod Laws
pub mod Answer
