mod Names
pub mod Looking
pub mod Named
pub mod Notes
pub mod Sound
mod Standing
pub mod Tables
mod Taking
mod Trees
pub mod BankFaults
pub mod Unsound
pub mod Denoted
pub mod Complete
mod Recovered
pub mod Renewed
