mod Names
pub mod Confining
mod Newlines
mod ScriptLines
mod Tracing
pub mod TurnLists
mod Turning
pub mod SavedRuns
pub mod OneLine
pub mod Joined
mod Agreeing
mod ConfinedRuns
mod Surviving
