mod Names
mod Explanations
mod OneLine
