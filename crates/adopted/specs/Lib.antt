pub mod Bookmark
pub mod Firm
