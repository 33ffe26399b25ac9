-- What a caller of the exports knows from their answers.
pub mod Demand
pub mod Tags
pub mod Filled
pub mod Conversions
