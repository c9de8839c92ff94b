pub mod LayerText
