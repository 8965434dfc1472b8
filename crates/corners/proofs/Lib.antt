pub mod Corners
pub mod Promised
pub mod Reached
