pub mod Answers
pub mod Dumps
pub mod Refusals
pub mod Reports
pub mod Runs
