-- The transform after 000, its outputs, the answer, and the words of demand 3 and of kept expressions.
pub mod Pass
pub mod Output
pub mod Merge
pub mod Attributes
pub mod Children
pub mod Visit
pub mod Transform
pub mod Kept
pub mod Answer
pub mod Words
pub mod Demand
pub mod Acceptance
pub mod Marks
pub mod Late
