mod Names
pub mod Tables
mod PlacesApart
pub mod Kept
mod Gathering
mod CompleteSlots
mod Completing
pub mod Publishing
pub mod Putting
mod PutFrames
mod Committing
pub mod Moving
mod Journaling
mod Opening
pub mod SealedUnits
mod ReplacedUnits
mod ReadSeals
mod Clusters
mod Blocks
mod NewFrames
mod NextUnits
