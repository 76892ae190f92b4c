pub mod Names
pub mod Graph
pub mod Rectangles
pub mod Laws
pub mod Part
