pub mod Subkeys
