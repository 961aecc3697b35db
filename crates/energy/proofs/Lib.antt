pub mod Layering
pub mod Days
pub mod Histories
