pub mod Numbers
pub mod Back
pub mod Forth
pub mod Lawful
pub mod Writing
pub mod Figures
pub mod Walking
pub mod Lines
