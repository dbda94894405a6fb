-- 01, "Drawing", as definitions: the pieces of a face, the scan, what a piece brings a pixel, the offers, drawing pixel by pixel; 02's facing, its load of a mesh, and its order of a scan.
pub mod Piece
pub mod Scan
pub mod Weighs
pub mod Offers
pub mod Draw
pub mod Calls
pub mod Load
pub mod Visits
