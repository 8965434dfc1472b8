pub mod TagLaws
pub mod SurplusLaws
pub mod Corners
