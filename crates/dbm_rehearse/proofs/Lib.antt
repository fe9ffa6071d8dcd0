pub mod Copies
pub mod ScriptLines
