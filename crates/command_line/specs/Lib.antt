pub mod Arguments
pub mod Commands
pub mod Jobs
pub mod Refusals
