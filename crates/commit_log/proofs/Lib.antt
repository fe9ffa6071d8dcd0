pub mod Begins
pub mod Finds
pub mod LogHolds
pub mod Logs
pub mod Nexts
pub mod Orders
pub mod Outside
mod OwnPages
pub mod ReadRuns
pub mod Recovered
pub mod Redone
mod Resting
mod Results
mod Rewritten
pub mod Settles
pub mod Spellings
mod Words
pub mod WriteRuns
pub mod StillLogged
