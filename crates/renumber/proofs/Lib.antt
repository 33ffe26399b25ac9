-- The laws of the rewriting: what it does to the buffer, how far the outermost open field reaches, and its turns.
pub mod Worlds
pub mod Spans
pub mod Renumbering
