-- 01, "Edges": what one pair of pixels gives the faces they show.
pub mod Shares
pub mod Additions
pub mod Steps
pub mod Sides
pub mod Unequal
-- proved of the definitions above
pub mod Laws
