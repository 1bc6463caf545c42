pub mod Aos
pub mod Fields
pub mod Telecommand
pub mod Telemetry
