-- What the contracts of a face's pieces cite beside the rules.
pub mod Face
