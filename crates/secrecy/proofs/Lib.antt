pub mod SameCalls
pub mod SameFrames
pub mod SameImages
pub mod Secrecy
