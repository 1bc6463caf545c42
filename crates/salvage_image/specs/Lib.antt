pub mod KeptOf
pub mod Salvage
