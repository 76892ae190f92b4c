mod Names
pub mod Numbers
mod Capabilities
pub mod Headers
mod SlotLists
mod Frames
mod Pages
mod Keepables
pub mod Directories
pub mod Extents
pub mod Superblocks
pub mod DirectorySectors
pub mod OneHeader
pub mod Images
pub mod Sectors
pub mod Halves
pub mod FrameReaders
pub mod Spelling
pub mod SlotsOf
pub mod Totals
pub mod Denoted
pub mod Shapes
pub mod Versions
pub mod Blanked
pub mod Blocks
pub mod Summed
pub mod SummedPages
mod Runs
pub mod GateCopies
pub mod NumberedGates
pub mod SealedSectors
pub mod SealedHeaders
pub mod SealedEntries
pub mod SealedClusters
pub mod SealedSpelling
pub mod Roots
pub mod SealedZeros
pub mod SealedDeciding
pub mod SealedSlots
