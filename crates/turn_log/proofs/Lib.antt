pub mod Prefixes
mod Keeps
