-- What the contracts of `found` cite: what a kind and a place say of the children that were looked at.
pub mod Finds
