-- The lines that the program desk answers.
pub mod Lines
