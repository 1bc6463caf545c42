pub mod Sendings
pub mod Releases
pub mod Managings
pub mod SharedKeys
