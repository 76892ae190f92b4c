mod Names
mod Answered
mod Building
mod Getters
mod Lacking
mod Numbers
mod Taken
mod Refused
