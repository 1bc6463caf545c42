pub mod Apart
pub mod Diagonal
