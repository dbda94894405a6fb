-- What the contracts of visits cite beside the rules.
pub mod Rows
pub mod Greater
pub mod Brush
