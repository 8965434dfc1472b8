pub mod Numbers
pub mod ReadyLaws
