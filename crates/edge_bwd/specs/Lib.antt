-- 01, "Edges": the call `bwd`.
pub mod Calls
pub mod Steps
-- proved of the definitions above
pub mod Laws
