mod Names
pub mod Cases
pub mod Counts
pub mod InvocationFrame
pub mod Journaling
pub mod Mapped
pub mod SoundEdits
pub mod SoundGates
pub mod SoundOrders
pub mod SoundParts
pub mod SoundWorlds
pub mod Spelling
pub mod BankTree
pub mod NumberLists
pub mod BankUsage
pub mod BankRescind
pub mod BankFreed
pub mod BankReturn
pub mod SoundBanks
pub mod SoundObjects
pub mod BankWrites
pub mod GivenUp
pub mod Revoking
mod Touching
pub mod Stepping
pub mod Usage
pub mod Rows
mod WorkedRows
mod ConfinedBanks
mod ConfinedWorld
mod ConfinedGates
mod Kept
mod ConfinedOrders
pub mod ConfinedRuns
