pub mod Salvaging
pub mod Again
