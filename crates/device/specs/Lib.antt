pub mod Calls
pub mod Disk
pub mod Moments
pub mod Ordered
