-- 02, Point 1: the call `bwd_antialias`.
pub mod Formula
pub mod Additions
pub mod Calls
pub mod Answer
-- proved of the definitions above
pub mod Laws
