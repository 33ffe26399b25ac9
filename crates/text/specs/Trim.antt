-- str::trim_start and str::trim_end on bytes. Assumes nothing: these are definitions.
use Rattle.std.specs.Prelude.{ℕ, zero, suc, Bool, ◌&&◌, ◌||◌, [], ◌∷◌, reverse, leb, eqb}
use Rattle.field.specs.Bytes.{Bytes, pick}

-- 01, Text run: the 25 characters with Unicode's property White_Space, by their bytes in UTF-8. Six of one byte: U+0009 to U+000D, U+0020
unfoldable pub one_byte_space : ℕ → Bool
one_byte_space a = leb 9 a && leb a 13 || eqb a 32

-- two of two bytes: U+0085, U+00A0
unfoldable pub two_byte_space : ℕ → ℕ → Bool
two_byte_space a b = eqb a 0xc2 && (eqb b 0x85 || eqb b 0xa0)

-- seventeen of three: U+1680; U+2000 to U+200A, U+2028, U+2029, U+202F; U+205F; U+3000
unfoldable pub three_byte_space : ℕ → ℕ → ℕ → Bool
three_byte_space a b c =
    eqb a 0xe1 && eqb b 0x9a && eqb c 0x80
    || eqb a 0xe2 && eqb b 0x80 && (leb 0x80 c && leb c 0x8a || eqb c 0xa8 || eqb c 0xa9 || eqb c 0xaf)
    || eqb a 0xe2 && eqb b 0x81 && eqb c 0x9f
    || eqb a 0xe3 && eqb b 0x80 && eqb c 0x80

-- how many bytes the white space character in front has, by the tests for two and for three bytes; 0: none stands there
unfoldable pub space_by : (ℕ → ℕ → Bool) → (ℕ → ℕ → ℕ → Bool) → Bytes → ℕ
space_by two three [] = 0
space_by two three (a ∷ []) = pick (one_byte_space a) 1 0
space_by two three (a ∷ b ∷ []) = pick (one_byte_space a) 1 (pick (two a b) 2 0)
space_by two three (a ∷ b ∷ c ∷ cs) = pick (one_byte_space a) 1 (pick (two a b) 2 (pick (three a b c) 3 0))

unfoldable pub front_space : Bytes → ℕ
front_space t = space_by two_byte_space three_byte_space t

-- the same at the back, of bytes that are given last byte first
unfoldable pub back_space : Bytes → ℕ
back_space t = space_by (λ b a. two_byte_space a b) (λ c b a. three_byte_space a b c) t

-- t without the characters in front whose bytes `space` counts; k bytes of one are still to go
unfoldable pub trim_by : (Bytes → ℕ) → ℕ → Bytes → Bytes
trim_by space k [] = []
trim_by space (suc k) (c ∷ cs) = trim_by space k cs
trim_by space zero (c ∷ cs) = elim (space (c ∷ cs)) [ zero ↦ c ∷ cs | suc k ↦ trim_by space k cs ]

unfoldable pub trim_start : Bytes → Bytes
trim_start t = trim_by front_space 0 t

unfoldable pub trim_end : Bytes → Bytes
trim_end t = reverse (trim_by back_space 0 (reverse t))
