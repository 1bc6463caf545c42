pub mod Masked
