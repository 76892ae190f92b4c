mod Marks
pub mod Lists
pub mod Positions
