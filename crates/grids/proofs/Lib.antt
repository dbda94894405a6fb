-- a law that a proof cites
pub mod Floor
