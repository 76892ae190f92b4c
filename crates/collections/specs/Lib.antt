pub mod Marks
pub mod Bits
pub mod SparseVec
