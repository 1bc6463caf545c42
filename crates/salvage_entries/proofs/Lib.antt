pub mod Gathering
pub mod KeptLaws
pub mod Members
pub mod Ranks
pub mod TestLaws
