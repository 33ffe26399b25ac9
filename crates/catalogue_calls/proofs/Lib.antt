-- The laws that the proofs of `catalogue_calls` share: numbers of four bytes, a page out walked flat, the records of templates, and the walks that
-- read and raise numbers; marks on the stack, and numbers that stand once each; the judge of a page; where a page stands, the names and the houses
-- of pages, and what a catalogue reads as; a page looked up, later pages lowered and closed up; a page that arrives and is written; and what a
-- caller knows from the answers alone.
pub mod Four
pub mod FlatLaws
pub mod MarkLaws
pub mod OnceLaws
pub mod PageLaws
pub mod CallWalk
pub mod RecordLaws
pub mod RecordWalk
pub mod JudgeLaws
pub mod FrameLaws
pub mod DifferLaws
pub mod TakenLaws
pub mod HousesLaws
pub mod SharesLaws
pub mod Steps
pub mod NamesLaws
pub mod ZeroLaws
pub mod ReadLaws
pub mod RowedLaws
pub mod UsedLaws
pub mod LookLaws
pub mod PartLaws
pub mod LowerLaws
pub mod CloseLaws
pub mod OutcomeLaws
pub mod LeaveLaws
pub mod WriteLaws
pub mod RoomLaws
pub mod ArriveLaws
pub mod Caller
