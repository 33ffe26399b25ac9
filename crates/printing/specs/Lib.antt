-- What the card prints, and a field's front.
pub mod Front
pub mod Card
