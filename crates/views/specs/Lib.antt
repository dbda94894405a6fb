-- What a pass can tell of a face list and its map, and maps renamed together with their list.
pub mod Alike
pub mod Renaming
