pub mod Limits
pub mod Meaning
pub mod Layers
pub mod Lawfulness
pub mod Bookings
