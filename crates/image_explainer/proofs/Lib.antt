mod Names
mod Directories
mod Frames
mod Headers
mod HeaderSlots
mod Units
mod Places
mod Superblocks
mod Marks
pub mod OneReason
mod Joined
mod Matching
mod Naming
mod Reasons
mod Refused
