pub mod Projects
pub mod Upgrades
