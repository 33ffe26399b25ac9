-- The laws of `text` that the crates above cite.
pub mod BlankLaws
pub mod RunLaws
pub mod WriteLaws
pub mod LineLaws
pub mod TrimLaws
pub mod EscapeLaws
pub mod TextLaws
pub mod IndentLaws
pub mod DecimalLaws
pub mod PlacesLaws
pub mod Decimals
pub mod TextBounds
pub mod WhiteSpace
