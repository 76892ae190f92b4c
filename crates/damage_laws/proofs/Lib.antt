mod Names
pub mod Rows
pub mod Superblocks
pub mod Headers
pub mod Units
pub mod Places
pub mod Damage
pub mod Breaks
pub mod Apart
pub mod Refused
pub mod OneHome
pub mod UnitLists
pub mod Changed
pub mod ExampleBytes
pub mod ExampleParts
pub mod ExampleFrames
pub mod Example
