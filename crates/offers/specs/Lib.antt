-- 01, "Drawing": offers, which of them a pixel shows, and what is left of them when some are taken out or renamed. Nothing here knows a layer.
pub mod Offer
pub mod Offers
pub mod Thinning
