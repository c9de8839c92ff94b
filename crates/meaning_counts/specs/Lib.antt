pub mod Rows
pub mod InSaves
