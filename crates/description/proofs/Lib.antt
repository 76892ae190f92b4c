mod Names
pub mod Elements
pub mod Keyed
pub mod Keys
pub mod Once
pub mod Pairs
pub mod Parts
pub mod PlainFrames
pub mod Types
pub mod DescribedOnce
pub mod Entries
pub mod FieldFlaws
pub mod KeptFrames
pub mod LaidFrames
pub mod Lists
pub mod NamedCapabilities
pub mod NamedTargets
pub mod NumberPlaces
mod Ranges
mod SeenNumbers
pub mod BrokenLimits
pub mod WholeProcesses
pub mod Worlds
pub mod FirstFlaws
pub mod ShapeFaults
pub mod Taken
pub mod Rules
