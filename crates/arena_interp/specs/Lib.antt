pub mod Keys
pub mod Endings
pub mod Partitions
pub mod Closing
pub mod BySide
