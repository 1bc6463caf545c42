pub mod Bounds
pub mod Holding
pub mod Lines
