pub mod Names
pub mod Homes
pub mod Laws
pub mod Written
pub mod Parts
