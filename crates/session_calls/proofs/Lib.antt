pub mod Serving
pub mod Losing
