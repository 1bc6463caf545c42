pub mod Calling
pub mod Replying
