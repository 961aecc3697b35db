pub mod Answers
pub mod Judgement
pub mod Marks
pub mod Energies
pub mod Calls
pub mod Booking
pub mod Invoices
pub mod Judged
