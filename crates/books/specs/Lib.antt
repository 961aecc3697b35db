pub mod Plain
pub mod Table
pub mod Cells
pub mod Listed
pub mod Books
pub mod Lawfulness
