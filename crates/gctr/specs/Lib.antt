pub mod Gctr
pub mod Increment
