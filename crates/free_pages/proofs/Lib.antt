pub mod FreeLists
pub mod FreePageTexts
pub mod OneStage
