-- What the contracts of the preview cite beside its definitions.
pub mod Answer
