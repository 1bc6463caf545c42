pub mod CheckField
pub mod Polynomials
pub mod Register
pub mod Words
