pub mod Interface
pub mod Word
