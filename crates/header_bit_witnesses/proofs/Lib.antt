pub mod HeaderBits
