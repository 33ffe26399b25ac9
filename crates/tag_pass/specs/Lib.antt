-- What the parts of the pass promise to each other.
pub mod Worlds
pub mod Signs
pub mod States
pub mod Turns
pub mod Answers
