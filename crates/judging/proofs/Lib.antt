pub mod Admitting
pub mod Answered
pub mod First
pub mod Searches
pub mod Standings
