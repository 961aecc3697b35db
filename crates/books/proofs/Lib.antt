pub mod Postings
pub mod Tables
pub mod Listings
