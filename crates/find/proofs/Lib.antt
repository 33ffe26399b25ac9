-- The laws that the proofs of `find` share.
pub mod SearchLaws
pub mod RecordLaws
pub mod FindLaws
pub mod Counted
pub mod Kept
pub mod Firsts
pub mod Positions
pub mod ReadUpTo
pub mod Answered
