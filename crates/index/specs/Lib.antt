-- Clauses by their heads. Runs: the next clause of a run that matches; Index: the buckets of the question's own run.
pub mod Runs
pub mod Index
