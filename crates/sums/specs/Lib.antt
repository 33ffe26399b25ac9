-- 02, A12. What must be believed is Choice, Tree, Grammar, Value and Integer; `sum_of` of Machine is proved to answer as these say. Small and Packed
-- are what the code's steps promise each other.
pub mod Choice
pub mod Tree
pub mod Grammar
pub mod Value
pub mod Integer
pub mod Machine
pub mod Small
pub mod Packed
