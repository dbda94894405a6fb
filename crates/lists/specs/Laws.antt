-- Laws of the definitions, and of tests.
pub mod Tests
pub mod Tables
pub mod Filled
pub mod Every
pub mod Turns
pub mod Sums
pub mod Filters
pub mod Folds
