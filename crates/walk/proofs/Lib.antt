-- Laws of the page walk: of what the second pass writes, of both passes, of the key, of leaves, and of both ends of what an attribute leaves.
pub mod SeeLaws
pub mod ActLaws
pub mod ReadLaws
pub mod LeafLaws
pub mod ArmLaws
