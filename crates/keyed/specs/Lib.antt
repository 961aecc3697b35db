pub mod Keys
pub mod Contents
pub mod Memory
pub mod Lists
