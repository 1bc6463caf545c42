pub mod Ghash
pub mod Input
pub mod Partway
pub mod Product
pub mod Table
