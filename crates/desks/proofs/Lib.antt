pub mod Both
pub mod Calls
pub mod Commands
pub mod Desks
pub mod Frames
pub mod Going
pub mod Reading
pub mod Shared
