-- What the contracts of `transform` cite: the whole page as one row of expressions, and the answer with every byte lent.
pub mod Run
pub mod Options
