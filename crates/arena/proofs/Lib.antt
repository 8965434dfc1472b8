pub mod Laws
pub mod Lengths
pub mod Stores
pub mod Children
pub mod Others
pub mod Ancestors
