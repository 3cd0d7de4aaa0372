mod Adding
mod Faulty
mod Sizes
mod ReadSoFar
mod Midway
mod Examples
