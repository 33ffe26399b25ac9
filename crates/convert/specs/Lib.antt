-- What must be believed of the converters: the kinds that strings give, templates and calls up and down, and the whole answer. Flat is what the
-- code's contracts cite: the same record by record, over bytes. Words: what demand 3 speaks of, in either form.
pub mod Kinds
pub mod Convert
pub mod Flat
pub mod Words
