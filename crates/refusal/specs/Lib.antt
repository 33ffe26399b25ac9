-- What must be believed of refusals: the number of each, and what checks in a row say.
pub mod Refusal
