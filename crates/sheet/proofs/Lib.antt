pub mod Judging
pub mod Products
pub mod Footing
pub mod Balancing
