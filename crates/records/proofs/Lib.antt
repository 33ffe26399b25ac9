-- Laws of recording.
pub mod KindLaws
pub mod MoveLaws
pub mod Templates
pub mod KeepLaws
pub mod ChildLaws
pub mod ReadLaws
pub mod WalkLaws
