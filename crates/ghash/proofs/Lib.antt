pub mod Examples
pub mod Hashing
pub mod Linear
pub mod Shifts
pub mod Unreduced
