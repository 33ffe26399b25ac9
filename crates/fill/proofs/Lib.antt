-- The laws that the proofs of `fill` share: of the check of an order, of the index of what it asks for, of the writing, and of the whole answer.
pub mod OrderLaws
pub mod AskedLaws
pub mod Nested
pub mod Answered
pub mod Asked
pub mod Firsts
pub mod Places
pub mod Served
pub mod FillingLaws
pub mod PartLaws
pub mod TextLaws
pub mod HtmlLaws
pub mod WholeLaws
pub mod Fronts
pub mod AnswerLaws
pub mod FillCases
