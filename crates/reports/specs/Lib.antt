pub mod Desks
pub mod Report
pub mod Rows
