-- What the contracts of `strings` cite: the open static string, what the parts of a template do to it, and what is due.
pub mod Due
pub mod Carve
pub mod Recorded
