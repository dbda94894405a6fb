-- 02, Point 1: an outline edge in the picture: its two ends, the pixels that it covers, the pairs of pixels there, and where it crosses the way between a pair's centres.
pub mod Formula
pub mod Leaf
pub mod Covered
pub mod Neighbours
pub mod Answer
