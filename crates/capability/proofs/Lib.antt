mod Names
pub mod SnapshotLaws
pub mod FrameLists
pub mod Keeping
pub mod KindNumbers
pub mod Mapped
pub mod References
pub mod Roles
mod Counts
mod Edits
pub mod Untouched
