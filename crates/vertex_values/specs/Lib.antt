-- 01, "Values and their backward pass": what both passes see and ask.
pub mod Pass
pub mod Questions
pub mod Answer
-- proved of the definitions above, for the passes
pub mod Laws
