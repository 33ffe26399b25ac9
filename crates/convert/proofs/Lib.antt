-- The laws that the proofs of `convert` share: of texts passed over by blocks, of kinds and strings, of records that are checked, of the loop over them, of the size of a page
-- out, and of the number of a refusal; Return: what goes up comes down as it was, and the other way round; Unchanged: going up changes nothing
-- that demand 3 speaks of; KindsInPlace to Accepted: what the transform makes of an accepted page goes down and comes up unchanged; and the
-- outcome at each exit.
pub mod PlainLaws
pub mod KindLaws
pub mod RecordLaws
pub mod TemplateLaws
pub mod PageLaws
pub mod AnswerLaws
pub mod Return
pub mod Unchanged
pub mod KindsInPlace
pub mod Formed
pub mod EveryTag
pub mod PageFormed
pub mod RowFormed
pub mod Lowered
pub mod Narrowed
pub mod Accepted
pub mod TurnedLaws
