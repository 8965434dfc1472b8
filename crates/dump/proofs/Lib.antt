pub mod DigitsLaws
pub mod Examples
pub mod LengthLaws
pub mod LineLaws
pub mod NameLaws
pub mod OrderLaws
pub mod WrittenLaws
