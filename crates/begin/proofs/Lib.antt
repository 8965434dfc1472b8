pub mod Laws
pub mod Complete
