pub mod Seen
pub mod Records
pub mod Adoption
pub mod Rows
pub mod Reached
