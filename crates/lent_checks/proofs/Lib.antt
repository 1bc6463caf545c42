mod Unread
pub mod Unpacking
