-- The laws that the proofs of `outs` share: what the tests of the code say of an import, what a step of the check of a page out learns from a
-- header, what its answers make of a turn, and what the tests say of records and their strings. Then that exactly the bytes of trees are
-- accepted: of templates out in TemplateTrees, of a page out in PageOutTrees, over the files from OutTags on.
pub mod NoField
pub mod LeafLaws
pub mod StepLaws
pub mod Checks
pub mod TemplateLaws
pub mod Parts
pub mod TemplateTrees
pub mod OutTags
pub mod OutSound
pub mod OutItems
pub mod OutRow
pub mod OutReading
pub mod OutComplete
pub mod OutWhole
pub mod PageOutTrees
