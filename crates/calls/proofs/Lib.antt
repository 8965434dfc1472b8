pub mod RunLaws
pub mod Complete
