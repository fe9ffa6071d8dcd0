pub mod Images
pub mod Laid
pub mod Reads
pub mod Salvage
pub mod Telling
