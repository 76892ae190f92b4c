pub mod Counting
pub mod Publishing
pub mod Broken
pub mod Wrong
pub mod Finding
pub mod Closing
