pub mod Among
pub mod Faults
