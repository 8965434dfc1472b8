pub mod Questions
pub mod Calls
pub mod Edge
pub mod Public
pub mod Demands
