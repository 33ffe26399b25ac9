-- The laws of `page` that the crates above cite: what is accepted is a page's own row, and every page within the limits is accepted.
-- `LeafLaws`, `RowEnds`, `Steps`, `CheckLaws` and `WholeLaws` are for the proofs of the checker's code.
pub mod Booleans
pub mod Headers
pub mod Tags
pub mod NumberLaws
pub mod Letters
pub mod TightRows
pub mod Bodies
pub mod Sound
pub mod Complete
pub mod Options
pub mod PageRow
pub mod Exact
pub mod Jsx
pub mod LeafLaws
pub mod RowEnds
pub mod Steps
pub mod CheckLaws
pub mod WholeLaws
