pub mod Events
pub mod Held
