pub mod LentCalls
