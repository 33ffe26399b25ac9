-- What the parts of the reader promise to each other.
pub mod Runs
pub mod Progress
pub mod Flags
pub mod Sources
pub mod Shapes
pub mod Names
pub mod Texts
pub mod Knowns
