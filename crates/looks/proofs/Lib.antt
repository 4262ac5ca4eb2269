-- Laws of the look: each way through a turn follows the machine's unit.
pub mod MoveLaws
pub mod RunLaws
pub mod ValueLaws
pub mod LookLaws
pub mod LookLoop
