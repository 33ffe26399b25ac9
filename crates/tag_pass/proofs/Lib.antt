-- The laws of the pass.
pub mod WorldLaws
pub mod Machine
pub mod Standing
pub mod BracesLaws
pub mod Sizes
pub mod ChildLaws
pub mod AttributeLaws
pub mod TagLaws
pub mod FrameLaws
pub mod PassLaws
pub mod AnswerLaws
pub mod Caller
