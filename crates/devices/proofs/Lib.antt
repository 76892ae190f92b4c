mod Names
pub mod Disks
mod Entries
mod Keeps
mod Mirrors
pub mod Past
mod Patches
mod CallErrors
mod Copies
mod Deeds
mod Mirrored
mod Openings
mod Walks
mod Stored
mod Zeros
mod Histories
