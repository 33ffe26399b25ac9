-- The laws of `grammar` that the crate above cites: `Exact`, and `Complete` and `Sound` beneath it.
pub mod Tests
pub mod Complete
pub mod Meaning
pub mod Sound
pub mod Exact
pub mod Shortest
pub mod Samples
pub mod Letters
