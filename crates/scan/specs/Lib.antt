-- What the contracts of a scan cite beside the rules.
pub mod Columns
