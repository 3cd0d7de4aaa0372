pub mod Tokens
pub mod Values
pub mod Derivations
pub mod Chains
pub mod Generated
pub mod PrintableLine
pub mod ReadLine
