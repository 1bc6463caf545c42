pub mod Accepting
pub mod Granting
