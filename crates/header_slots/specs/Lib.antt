pub mod Slots
pub mod Publish
pub mod Laws
pub mod Wrong
pub mod Committed
pub mod Closing
