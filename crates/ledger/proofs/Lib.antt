pub mod Entries
pub mod Cleared
pub mod Moves
pub mod Coherence
pub mod Laws
pub mod Tags
pub mod Operations
pub mod Swept
pub mod Closed
pub mod Searched
pub mod Emptied
pub mod Loaned
pub mod Becoming
pub mod Passed
mod PassedLoans
