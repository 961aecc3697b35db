-- Lemmas that the proofs of functions use.
pub mod Digits
pub mod Fronts
pub mod Lines
