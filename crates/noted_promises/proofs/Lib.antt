pub mod Dumps
pub mod Judged
pub mod Refusals
pub mod Reports
pub mod Runs
