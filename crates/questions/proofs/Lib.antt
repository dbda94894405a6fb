-- proved of the definitions in specs/, for the crates above
pub mod Laws
-- lemmas of the loop over a map
pub mod Greatest
