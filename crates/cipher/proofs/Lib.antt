pub mod Cells
pub mod Examples
pub mod Laws
pub mod Rounds
pub mod Small
