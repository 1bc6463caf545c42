pub mod LentChecks
