pub mod Association
pub mod Search
