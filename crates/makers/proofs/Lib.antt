pub mod Laws
pub mod Made
pub mod Pieces
