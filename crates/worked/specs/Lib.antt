-- 02, A12. What must be believed is Worked, on the tree. Row is the same on rows of fields, which the code is held to.
pub mod Worked
pub mod Row
