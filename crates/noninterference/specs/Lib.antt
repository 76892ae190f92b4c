pub mod Names
pub mod Reads
pub mod Noninterference
pub mod WorkedReads
