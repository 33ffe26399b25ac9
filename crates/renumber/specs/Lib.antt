-- For the code's own contracts: what is right says crate outs (specs/Renumber.antt). Nothing here needs belief.
pub mod Step
