-- The laws of `strings` that the crates above cite: `CarveLaws` has the strings that a whole template leaves.
pub mod DueLaws
pub mod CarveLaws
pub mod TagLaws
pub mod MergeLaws
pub mod ShapeLaws
pub mod FrontSizes
pub mod TreeLaws
pub mod AttrLaws
pub mod MergedLaws
pub mod ElementLaws
pub mod RecordedLaws
