mod Names
mod Known
mod Paths
