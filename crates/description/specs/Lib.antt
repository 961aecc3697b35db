-- The rules of a description, in the order to read them: words, numbers, entries, the group, figures; then the texts of problems.
pub mod Words
pub mod Numbers
pub mod Entries
pub mod Group
pub mod Figures
pub mod Texts
