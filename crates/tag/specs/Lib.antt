-- What the program prints.
pub mod TagCard
