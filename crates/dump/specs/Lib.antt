pub mod Digits
pub mod Line
pub mod Order
pub mod Written
