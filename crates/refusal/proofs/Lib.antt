-- The laws of verdicts that the crates above cite.
pub mod Verdicts
