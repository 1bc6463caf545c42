pub mod NoteCommands
pub mod Steps
