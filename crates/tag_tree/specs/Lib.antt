-- What must be believed of a tag that is read: its tree in a page, and what is answered.
pub mod PageTag
pub mod TagAnswer
