pub mod Counting
mod DecimalLaws
mod FieldLaws
mod HexadecimalLaws
