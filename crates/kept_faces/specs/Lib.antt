-- What the contracts of the kept faces cite beside the rules.
pub mod Run
