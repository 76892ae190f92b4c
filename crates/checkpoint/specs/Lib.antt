pub use Rattle.capability.specs.Parts
pub mod Names
pub mod Saved
pub mod Snapshots
pub mod Refused
pub mod Opened
pub mod Store
pub mod Journal
