pub mod Chains
pub mod Fields
pub mod Appending
pub mod Lookups
pub mod Entering
