-- 02, Point 10: the picture of body numbers.
pub mod Labels
pub mod Ready
-- how the code fills it
pub mod Strips
-- what the label screen can tell of a layer
pub mod Screen
pub mod Told
