-- The laws of `tag_tree`: what is accepted, and that it stands in a page.
pub mod NamesOk
pub mod TagLimits
pub mod TagExact
pub mod TagSamples
