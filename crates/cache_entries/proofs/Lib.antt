mod Names
pub mod Contents
pub mod Voids
pub mod Orders
pub mod Recent
pub mod Turns
pub mod Logs
pub mod Spreads
pub mod Stored
