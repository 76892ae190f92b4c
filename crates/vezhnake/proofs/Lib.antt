mod Names
mod AsBox
pub mod Handles
pub mod Opening
pub mod RawReplies
pub mod Saving
pub mod ServedLines
pub mod Sessions
pub mod Surviving
mod Walks
