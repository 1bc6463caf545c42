pub mod Noting
