-- UTF-8 by RFC 3629. `Utf8` has the definition of it; `Parts` says what the parts of the check promise to each other, and no caller needs it.
pub mod Utf8
pub mod Parts
