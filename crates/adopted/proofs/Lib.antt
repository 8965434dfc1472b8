pub mod Position
pub mod Bound
pub mod Holds
pub mod FirmLaws
pub mod Simulation
pub mod WalkLaws
pub mod FinishLaws
