pub mod Assembling
pub mod Headers
