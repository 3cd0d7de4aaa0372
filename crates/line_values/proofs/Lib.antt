mod Levels
mod Turns
