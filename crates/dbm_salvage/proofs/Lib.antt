pub mod ContentParts
pub mod FoundPages
pub mod LaidImages
pub mod LookRuns
pub mod PageKinds
pub mod RecordPairs
