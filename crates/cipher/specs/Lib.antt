pub mod AddRoundKey
pub mod Cipher
pub mod MixColumns
pub mod ShiftRows
pub mod State
pub mod SubBytes
