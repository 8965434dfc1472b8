pub mod Told
pub mod Element
pub mod Reset
pub mod Foreign
pub mod BodyElem
pub mod Tokenizer
