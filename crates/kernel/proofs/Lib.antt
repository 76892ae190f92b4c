mod Names
mod Acts
mod Machines
mod Journals
mod MemoryServing
mod Performing
mod Stages
