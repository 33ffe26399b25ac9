-- What the contracts of `text` cite: escapes, lines, trimming, the two line rules, decimal digits, and what the helper functions answer;
-- and what a decimal text means, for the theorems.
-- Each rule is 000's on bytes. On bytes that are no UTF-8 the definitions still say what the code does.
pub mod Escape
pub mod Lines
pub mod Trim
pub mod WhiteSpace
pub mod Text
pub mod Decimal
pub mod DecimalText
pub mod Runs
