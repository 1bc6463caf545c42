pub mod Calls
pub mod Decryption
pub mod Encryption
pub mod Lengths
