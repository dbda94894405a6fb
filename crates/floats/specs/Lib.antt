-- What narrowing and the length of a pair answer (01, "Float tools").
pub mod Narrow
