mod Names
pub mod CallErrors
pub mod CapabilityTexts
pub mod CapabilityWords
mod Commands
pub mod CommonWords
mod Digits
mod FirstWords
mod LineFaults
pub mod NumberedLines
pub mod Fronts
mod Numbers
mod ShortInvocations
mod ShortNumbers
mod Spellings
mod Split
mod Tables
mod Texts
