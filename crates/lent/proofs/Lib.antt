pub mod Kit
pub mod Lowest
