pub mod Questions
pub mod Here
