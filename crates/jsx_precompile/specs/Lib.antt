-- What the contracts of the exports cite besides the crates below.
pub mod Version
