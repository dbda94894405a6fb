-- When a face contains a point of the image: the test of both edge passes.
pub mod Inside
pub mod Steps
-- proved of the definitions above
pub mod Laws
