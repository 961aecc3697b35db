pub mod Laws
pub mod Nearest
