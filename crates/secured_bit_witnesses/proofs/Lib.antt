pub mod SecuredBits
