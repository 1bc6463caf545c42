pub mod Examples
pub mod Inverse
pub mod Products
pub mod Small
