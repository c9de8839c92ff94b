pub mod LayerLaws
pub mod PeelLaws
pub mod InnerStart
