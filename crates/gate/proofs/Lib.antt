mod Names
pub mod BankStates
pub mod Effects
pub mod Standing
mod Plans
