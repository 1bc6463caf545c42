pub mod LentCommands
