pub mod OpenFiles
pub mod Opening
