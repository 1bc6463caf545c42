pub mod Decimals
pub mod Ends
pub mod Puts
