pub mod AnyFile
pub mod Changing
pub mod Holding
pub mod Looking
pub mod Passing
pub mod Splitting
pub mod Staging
pub mod Tables
