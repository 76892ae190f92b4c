pub mod Sums
pub mod Seal
pub mod Damage
pub mod Laws
