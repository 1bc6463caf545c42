pub mod Layouts
pub mod Lent
pub mod SameFields
pub mod ValidBodies
