pub mod Gates
pub mod Damage
pub mod Laws
pub mod Changed
pub mod Example
