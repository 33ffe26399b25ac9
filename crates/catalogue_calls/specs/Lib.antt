-- What the parts of an arrival and of a leaving promise each other, the whole answer of both calls, and what a caller knows from the answers.
pub mod Flat
pub mod Next
pub mod Once
pub mod Standing
pub mod Differ
pub mod Judges
pub mod Reads
pub mod Answer
pub mod Houses
pub mod Looks
pub mod Arrives
pub mod Leaves
pub mod Told
