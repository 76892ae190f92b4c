pub mod Objects
pub mod Strings
