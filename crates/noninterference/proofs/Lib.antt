mod Names
mod ReadEdits
mod ReadBanks
mod ReadOrders
mod ReadGates
pub mod ReadRuns
mod ReadWorlds
