mod Names
mod ClosedGates
mod FreshImages
mod HomeFrames
pub mod OldImages
mod SlotFrames
mod Firsts
mod OneBlocks
mod Sealing
mod HomeUnits
mod CommittedOrNone
mod OldGates
mod ImageUnits
mod SealedPair
mod NewFrames
