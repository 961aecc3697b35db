-- Not definitions but proof: the lemmas by which each way of sharing out and each rule keeps the law of its trait.
-- They stand here since the check lets an `impl` cite `specs/` alone. All other lemmas are in `proofs/`.
pub mod Amounts
pub mod Accepting
pub mod Energies
pub mod Orders
pub mod Proportions
pub mod Netted
pub mod Keeping
