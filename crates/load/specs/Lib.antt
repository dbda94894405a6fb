-- What the contracts of the load cite beside the rules.
pub mod Answer
