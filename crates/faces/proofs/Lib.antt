-- Lemmas of the loop over the faces.
pub mod FaceList
