-- The laws of `names` that the crates above cite.
pub mod CompareLaws
pub mod RowLaws
pub mod SpellLaws
pub mod FitsLaws
pub mod ListLaws
pub mod NormalizeLaws
pub mod TableLaws
pub mod VoidLaws
pub mod WordLaws
pub mod MarkLaws
pub mod NamespacedLaws
pub mod EscapedLaws
pub mod NameLaws
pub mod WhatwgLaws
