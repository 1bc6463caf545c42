pub mod Carried
pub mod Leaving
pub mod Small
pub mod Under
