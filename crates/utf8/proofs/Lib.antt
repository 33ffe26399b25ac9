-- Callers need `Laws`; the other files serve the proofs of this crate.
pub mod Laws
mod Examples
mod Forms
mod Places
mod Rows
mod Words
