pub mod Limits
pub mod Imbalance
pub mod Charge
