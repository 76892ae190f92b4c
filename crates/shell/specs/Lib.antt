pub mod Lines
pub mod Served
pub mod Watching
pub mod Listing
pub mod Sessions
pub mod Laws
