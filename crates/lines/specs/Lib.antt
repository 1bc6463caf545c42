pub mod Fields
pub mod Hexadecimal
pub mod Decimal
pub mod Input
