-- What must be believed of looking templates up: the walk over the records, and the whole answer.
pub mod Find
pub mod Search
pub mod Answer
pub mod Words
