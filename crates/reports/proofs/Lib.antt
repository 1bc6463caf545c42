pub mod Placing
pub mod Renewing
pub mod Telling
