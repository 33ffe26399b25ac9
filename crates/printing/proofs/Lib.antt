-- Laws of a field's front, of the texts by their tags and by their parts, and of how long they are; and the worked card of 01.
pub mod FrontLaws
pub mod QuotedLaws
pub mod RoomLaws
pub mod NameLaws
pub mod LineLaws
pub mod ByTag
pub mod TextLength
pub mod Worked
