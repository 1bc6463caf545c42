pub mod AnswersGiven
