pub mod Halves
pub mod Lengths
