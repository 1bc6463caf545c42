pub mod SecurityHeader
pub mod Services
pub mod Steps
