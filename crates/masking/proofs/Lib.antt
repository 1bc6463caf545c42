pub mod Fronting
pub mod Masking
