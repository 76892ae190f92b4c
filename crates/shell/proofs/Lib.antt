pub mod Listed
pub mod Sessions
pub mod SessionRuns
pub mod ShellLines
pub mod Words
