pub mod Answering
pub mod Unstored
