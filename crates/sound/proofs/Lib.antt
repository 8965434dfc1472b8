pub mod Exact
pub mod Range
pub mod Reading
pub mod Rules
