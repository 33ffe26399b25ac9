-- What the small functions answer. Nothing here needs belief. Assumes nothing: these are definitions.
use Rattle.std.specs.Prelude.{ℕ, [], eqb}
use Rattle.field.specs.Bytes.{Bytes, pick}
use Rattle.field.specs.Number.{big_endian}

-- the front of a field that is written: of a call its number
abbrev pub numbered : ℕ → ℕ → ℕ → Bytes
numbered width t n = pick (eqb t 0x90) (big_endian width n []) []
