pub mod Answers
pub mod Replies
pub mod Said
pub mod Verdicts
pub mod Wants
