pub mod Words
pub mod Explained
