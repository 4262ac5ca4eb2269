-- Looks: what their code gives, said by the machine; and how a part of a run ends.
pub mod Moves
pub mod Runs
pub mod Values
pub mod Steps
