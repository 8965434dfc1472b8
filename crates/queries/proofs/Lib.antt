pub mod ResetLaws
pub mod QueryLaws
pub mod Complete
pub mod Ranges
