mod Names
mod Zones
mod TrustedEdits
mod TrustedBanks
mod TrustedOrders
mod TrustedGates
pub mod TrustedRuns
mod TrustedWorld
