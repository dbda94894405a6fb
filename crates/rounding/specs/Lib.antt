-- The order of floats, and that rounded sums, differences and products keep it.
pub mod Order
pub mod Finite
-- finite values and rounded results as fractions
pub mod Signed
pub mod Monotone
