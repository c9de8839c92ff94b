pub mod Layers
pub mod ElementLaws
pub mod LayerLaws
pub mod PeelLaws
pub mod LayerCalls
pub mod InnerStart
pub mod LayerExamples
