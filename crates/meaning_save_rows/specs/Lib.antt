pub mod Tables
pub mod NewExample
pub mod TablesNew
