pub mod Bounds
pub mod Choices
pub mod Lawfulness
