-- Laws of the page walk's cycle.
pub mod FieldLaws
pub mod ExprLaws
pub mod PartLaws
pub mod CallLaws
pub mod CallSteps
pub mod VisitLaws
pub mod FoundLaws
pub mod EntryLaws
