pub mod Reading
pub mod Committed
pub mod Publish
pub mod Closing
pub mod Directory
pub mod Units
