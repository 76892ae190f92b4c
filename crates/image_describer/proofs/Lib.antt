mod Names
mod Added
mod Assembled
mod Chains
mod Covers
mod Filled
pub mod GrownDescription
pub mod GrownFits
pub mod GrownLaws
pub mod GrownRanges
pub mod GrownText
pub mod GrownWorld
mod Lines
mod Moved
mod Naming
pub mod Plain
mod Puts
mod Quoted
mod ReadBack
mod ReadOnly
mod Rising
mod Said
pub mod SameTables
pub mod Short
mod Telling
mod Written
