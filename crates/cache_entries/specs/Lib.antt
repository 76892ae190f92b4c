pub mod Names
pub mod Bodies
pub mod Entries
pub mod NumberHasher
pub mod Order
