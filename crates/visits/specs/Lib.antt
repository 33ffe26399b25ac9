-- What the contracts of `visits` cite: what stands in bytes as the walk sees it, and how a visit begins with the record walk.
pub mod Visiting
