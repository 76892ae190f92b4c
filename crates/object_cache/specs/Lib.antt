pub use Rattle.cache_entries.specs.Entries
pub use Rattle.cache_entries.specs.Order
pub use Rattle.checkpoint.specs.Store
pub mod Names
pub mod Memory
pub mod StoreState
pub mod Journaled
pub mod Laws
