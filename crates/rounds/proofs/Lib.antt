pub mod SearchLaws
pub mod FirmLaws
pub mod TurnLaws
