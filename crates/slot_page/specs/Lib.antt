pub mod Contents
pub mod Layout
pub mod Marks
pub mod Slots
