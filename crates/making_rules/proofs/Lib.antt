pub mod Making
pub mod Proofs
