-- 02, Point 1: the call `antialias`.
pub mod Smoothing
pub mod Calls
-- proved of the definitions above
pub mod Laws
