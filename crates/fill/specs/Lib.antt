-- What must be believed of filling templates: the grammar of an order, the HTML that it makes, and the whole answer.
pub mod Order
pub mod Html
pub mod Answer
pub mod CheckFilling
pub mod Located
pub mod Indexed
pub mod Writing
pub mod Attempt
