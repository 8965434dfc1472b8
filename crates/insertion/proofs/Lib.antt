pub mod Laws
pub mod PairsLaws
