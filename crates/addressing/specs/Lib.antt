pub mod Addressing
pub mod Steps
