-- The sorts of bytes that the grammar speaks of. Assumes nothing: these are definitions.
use Rattle.std.specs.Prelude.{ℕ, Bool, true, false, ◌&&◌, ◌||◌, not, [], ◌∷◌, ◌++◌, leb, eqb}
use Rattle.field.specs.Bytes.{Bytes}

-- one byte more at the end
abbrev pub snoc : Bytes → ℕ → Bytes
snoc w c = w ++ (c ∷ [])

-- one of two, by a test; the laws about it are `chose`, `passed` and `chosen`
unfoldable pub choose : {A : Type 0} → Bool → A → A → A
choose true a b = a
choose false a b = b

-- each byte is of the sort p; some byte is
unfoldable pub each : (ℕ → Bool) → Bytes → Bool
each p [] = true
each p (c ∷ w) = p c && each p w

abbrev pub some_byte : (ℕ → Bool) → Bytes → Bool
some_byte p w = not (each (λ c. not (p c)) w)

-- 01, 40: a letter, `_` or `$`
unfoldable pub letter : ℕ → Bool
letter c = (leb 65 c && leb c 90) || (leb 97 c && leb c 122) || eqb c 95 || eqb c 36

unfoldable pub digit : ℕ → Bool
digit c = leb 48 c && leb c 57

-- then also digits and `-`
unfoldable pub name_byte : ℕ → Bool
name_byte c = letter c || digit c || eqb c 45

-- `.` or `:`
unfoldable pub separator : ℕ → Bool
separator c = eqb c 46 || eqb c 58

-- 02, A3: white space is tab, LF, CR, space
unfoldable pub space : ℕ → Bool
space c = eqb c 9 || eqb c 10 || eqb c 13 || eqb c 32

unfoldable pub name_goes_on : ℕ → Bool
name_goes_on c = space c || separator c

-- `=`
unfoldable pub equals_sign : ℕ → Bool
equals_sign c = eqb c 61

-- all but `<` `>` `{` `}`
unfoldable pub text_byte : ℕ → Bool
text_byte c = not (eqb c 60 || eqb c 62 || eqb c 123 || eqb c 125)

-- all but the quote itself
unfoldable pub string_byte : ℕ → ℕ → Bool
string_byte q c = not (eqb c q)

-- all but `;`
unfoldable pub entity_byte : ℕ → Bool
entity_byte c = not (eqb c 59)

-- `"` or `'`
unfoldable pub quote : ℕ → Bool
quote c = eqb c 34 || eqb c 39

-- in braces, in quotes: all but the quote itself, LF, CR and backslash
unfoldable pub quoted_byte : ℕ → ℕ → Bool
quoted_byte q c = not (eqb c q || eqb c 10 || eqb c 13 || eqb c 92)

-- in braces, out of quotes: all but `<` `{` `}` backquote, backslash, slash and quotes
unfoldable pub source_byte : ℕ → Bool
source_byte c = not (eqb c 60 || eqb c 123 || eqb c 125 || eqb c 96 || eqb c 92 || eqb c 47 || quote c)

-- first in braces, tags and spreads apart: no white space, point or `[`
unfoldable pub source_start : ℕ → Bool
source_start c = not (space c || eqb c 46 || eqb c 91)
