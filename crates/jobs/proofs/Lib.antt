mod Names
mod BuiltImages
mod Observed
mod RunImages
mod UpgradedImages
pub mod WrittenTexts
