mod Names
mod Chains
mod Finding
mod Listing
pub mod Members
mod Searches
mod Sources
mod TextLines
mod Ways
