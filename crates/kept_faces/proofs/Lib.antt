-- Lemmas of the search for a run's end, and of the loop over the runs.
pub mod Marks
pub mod Runs
