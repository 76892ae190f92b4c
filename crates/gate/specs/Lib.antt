pub mod Names
pub mod Plan
pub mod Invoke
pub mod Ordering
