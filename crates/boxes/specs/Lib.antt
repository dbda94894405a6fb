-- What the contracts of a piece's box cite beside the rules.
pub mod Reach
pub mod Box
