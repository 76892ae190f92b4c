pub mod Names
pub mod Explained
pub mod Places
pub mod Text
