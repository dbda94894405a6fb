-- 02, Point 1: the lines of an image outside which an outline edge covers nothing.
pub mod Narrowed
pub mod Course
