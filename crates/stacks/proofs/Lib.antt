pub mod Pops
pub mod StackLaws
pub mod Root
