mod Names
pub mod Places
pub mod Closings
pub mod Commits
pub mod SavedStates
mod Directories
pub mod Runs
mod Sectors
pub mod SealedSectors
pub mod SealedReading
pub mod SealedCommits
pub mod SealedGates
pub mod SealedClosings
pub mod SealedPieces
pub mod SealedDirectories
pub mod SealedChecks
pub mod SealedWritten
pub mod CommittedHeaders
pub mod AnyVersions
