pub mod Commanding
pub mod Steps
