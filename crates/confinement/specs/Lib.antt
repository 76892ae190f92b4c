pub mod Names
pub mod Trusted
pub mod WorkedTrust
