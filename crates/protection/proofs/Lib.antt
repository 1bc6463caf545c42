pub mod Covering
pub mod Slices
pub mod Wire
