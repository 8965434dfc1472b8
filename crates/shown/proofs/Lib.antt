pub mod Walk
pub mod Linked
pub mod Enters
pub mod Bytes
pub mod Bounds
pub mod Own
pub mod Shown
pub mod Examples
