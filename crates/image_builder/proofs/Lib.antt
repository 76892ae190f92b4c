mod Names
mod Refusals
pub mod Images
mod Numbered
mod Upgrades
