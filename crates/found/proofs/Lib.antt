-- Laws of `found`: `Places` for bytes that stand within others; for each small function what it learns at its returns; `MergeLaws` for the
-- entries of merged children, by the tag in front; `WalkLaws` and `StepLaws` for the loop of `entries_of`; `FoundLaws` for `found_of`;
-- `KnownLaws` for what is known of fragments.
pub mod Places
pub mod ItemLaws
pub mod JoinLaws
pub mod FlattenLaws
pub mod SpliceLaws
pub mod MergeLaws
pub mod EnterLaws
pub mod WalkLaws
pub mod FoundLaws
pub mod StepLaws
pub mod KnownLaws
