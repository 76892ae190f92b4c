mod Names
pub mod Weights
pub mod Runs
pub mod Bounds
pub mod Numbers
pub mod Summing
pub mod Bursts
pub mod Spelled
pub mod Damaged
pub mod SealedRows
