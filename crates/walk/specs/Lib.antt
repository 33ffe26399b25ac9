-- What the contracts of `walk` cite: page out with the places in both outs (`See`), and the parts of a gap and of a property (`Plan`).
pub mod See
pub mod Plan
