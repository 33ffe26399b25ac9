-- What the contracts of `decisions` cite: elements, attributes, expressions and children by the row of their fields, in the terms of `spec`.
pub mod Index
pub mod At
pub mod Repeats
pub mod Becomes
