-- What must be believed of templates out and page out as they are read back: their grammars, with what is refused and in which order; their trees
-- and the bytes of a tree; the numbers of calls in another width. Step and Passed are what the code's steps promise each other.
pub mod Held
pub mod PageOut
pub mod Templates
pub mod Tree
pub mod Encode
pub mod Renumber
pub mod Step
pub mod Passed
