pub mod Fields
pub mod Full
pub mod Ready
pub mod Builder
pub mod Lent
pub mod Open
