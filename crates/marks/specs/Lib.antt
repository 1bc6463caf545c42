pub mod Gray
pub mod Stores
