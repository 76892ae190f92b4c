pub mod Names
pub mod Brief
pub mod Grown
pub mod Laws
pub mod Spelled
pub mod Text
pub mod DescribedEntry
