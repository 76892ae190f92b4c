mod Names
mod Tallies
pub mod Missing
pub mod Renewing
pub mod Plans
