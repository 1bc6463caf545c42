pub mod Assembled
pub mod Closed
pub mod Rebuilt
pub mod Room
