-- 01, "Edges": what one face receives.
pub mod Scattering
