pub mod Bytes
pub mod Kinds
pub mod Encoding
pub mod Reading
pub mod Laws
pub mod Writing
pub mod File
pub mod Text
