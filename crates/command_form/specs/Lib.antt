pub mod Channels
pub mod Form
