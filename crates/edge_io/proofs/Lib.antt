pub mod LinesLemmas
mod Bytes
mod Partway
