mod Names
mod AcceptedDescriptions
mod DescribedImages
mod DrawnImages
mod GrownImages
pub mod InfoImages
mod ReachedImages
