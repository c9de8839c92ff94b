pub mod Save
pub mod SaveExample
pub mod SaveRows
