pub mod Chaining
pub mod Laws
