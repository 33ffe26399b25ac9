-- What the contracts of `records` cite: templates out, and what a first pass adds to it.
pub mod Keep
pub mod Kinds
