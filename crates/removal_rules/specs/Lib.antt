-- 02, Point 5: a removal seen beforehand.
pub mod Removal
-- what is said of accepted calls and their pixels
pub mod Asked
pub mod Matched
pub mod Alone
