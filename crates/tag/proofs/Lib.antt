-- Laws of what is printed of tag text.
pub mod TagCardLaws
