pub mod Lists
pub mod Numbers
pub mod Output
pub mod Same
pub mod Xor
