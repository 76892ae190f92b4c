pub mod Names
pub mod Faults
pub mod Images
pub mod Laws
pub mod Saving
pub mod Shell
