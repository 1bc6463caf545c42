pub mod Afresh
pub mod Again
pub mod Fates
pub mod Salvaging
pub mod Untouched
