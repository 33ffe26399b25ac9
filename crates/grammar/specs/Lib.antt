-- What must be believed of tag text: `Signs`, `Known`, `Syntax` and `Grammar`. `Reader` is the same as a machine; the proofs hold it to the grammar.
pub mod Signs
pub mod Known
pub mod Syntax
pub mod Grammar
pub mod Reader
