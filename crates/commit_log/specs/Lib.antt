pub mod Homes
pub mod Log
pub mod Pieces
pub mod Redoing
pub mod Found
