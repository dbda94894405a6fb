-- 01, "Edges": the call `edge_gradient_and_type`.
pub mod Calls
pub mod Steps
-- proved of the definitions above
pub mod Laws
