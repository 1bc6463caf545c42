pub mod FoundKeys
pub mod Loops
pub mod SameKeys
