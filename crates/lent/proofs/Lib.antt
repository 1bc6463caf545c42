pub mod Returning
pub mod Taken
pub mod Unpacking
