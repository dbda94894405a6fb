-- 01, "Edges": `interpolate_from_edges`, velocities of vertices from those on the edges.
pub mod Velocity
pub mod Calls
