pub mod Names
pub mod Machine
pub mod Power
pub mod Standing
pub mod Opening
