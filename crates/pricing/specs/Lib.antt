pub mod Limits
pub mod Fractions
pub mod Stages
pub mod Prices
pub mod Laws
