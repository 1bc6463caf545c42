pub mod KeptParts
pub mod Places
pub mod Sizes
pub mod ValidImages
