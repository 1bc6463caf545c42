pub mod Guests
pub mod Noting
