pub mod Tally
pub mod Runs
pub mod Accounts
pub mod Promises
pub mod Fair
