-- What must be believed of the page: its tree, how a tree is read from fields and written as fields, and what is refused.
pub mod Number
pub mod Page
pub mod Tree
pub mod Check
pub mod CheckField
pub mod Encode
pub mod Limits
pub mod Given
pub mod Jsx
