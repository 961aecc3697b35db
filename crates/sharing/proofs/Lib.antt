pub mod Accepting
pub mod Amounts
pub mod Energies
pub mod Keeping
pub mod Netted
pub mod Proportions
pub mod Weights
