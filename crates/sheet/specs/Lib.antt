pub mod Lines
pub mod Verdict
pub mod Sums
pub mod Balance
