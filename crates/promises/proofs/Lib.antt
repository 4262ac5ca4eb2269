-- Kept: the promises hold of whatever the contracts of `solve` and of the C function allow. Agree*: for each public function, any two results that its contract allows agree.
-- WrongVersions: document 01's wrong versions keep no contract.
pub mod Kept
pub mod AgreeTests
pub mod AgreeWords
pub mod AgreeRuns
pub mod AgreeCalls
pub mod WrongVersions
