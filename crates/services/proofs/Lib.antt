pub mod Chosen
pub mod Ciphers
pub mod ServiceLaws
