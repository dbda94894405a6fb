-- 01, "Drawing": the calls that clear and join layers.
pub mod Calls
