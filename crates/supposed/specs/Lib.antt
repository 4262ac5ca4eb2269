-- Supposed: the clauses of the supposed runs by their heads.
pub mod Supposed
