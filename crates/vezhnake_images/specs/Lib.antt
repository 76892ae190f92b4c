pub mod ImageStatuses
pub mod ImageBytes
pub mod BuiltBytes
pub mod RawInfos
pub mod ReadBytes
