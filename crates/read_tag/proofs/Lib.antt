-- The laws of `read_tag`.
pub mod RunLaws
pub mod ProgressLaws
pub mod FlagLaws
pub mod SourceLaws
pub mod TrimLaws
pub mod ShapeLaws
pub mod NameLaws
pub mod NameWalkLaws
pub mod NameFieldLaws
pub mod IdentLaws
pub mod NameLimitLaws
pub mod TextLaws
pub mod KnownLaws
pub mod HeldLaws
pub mod DigitLaws
pub mod WordLaws
pub mod ChoiceLaws
