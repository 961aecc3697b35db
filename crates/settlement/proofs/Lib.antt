pub mod Sums
pub mod Stands
pub mod Adding
pub mod Ranges
pub mod Undoing
pub mod Rounded
