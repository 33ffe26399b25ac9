-- What the contracts of `names` cite: the names that 000 lists and what it makes of an attribute's name, the lists of WHATWG's HTML, and
-- how the code's tables are read.
pub mod Names
pub mod Whatwg
pub mod Table
