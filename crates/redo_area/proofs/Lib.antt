mod Armings
pub mod Blanks
pub mod CommitRuns
pub mod GrownRuns
pub mod Headers
mod Holding
pub mod Images
mod Kept
mod KindChanges
mod LogCommits
mod LogReads
mod LogRecoveries
pub mod LogRuns
mod Openings
pub mod ReadRuns
mod Recoveries
mod Results
mod SectorRanges
pub mod Splits
mod StillSettles
mod Turns
pub mod Writes
