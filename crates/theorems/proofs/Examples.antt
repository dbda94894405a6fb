-- Examples beside the marked ones, which use the theorems.
pub mod Labels
