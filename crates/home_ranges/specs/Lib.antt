pub mod Names
pub mod Home
pub mod Laid
pub mod Laws
