-- What `bwd` works out of one face.
pub mod Weights
pub mod Tri
pub mod Answer
-- proved of the definitions above
pub mod Laws
