-- What the contracts of one pixel's depth cite beside the rules.
pub mod Answer
