-- escape_html. Assumes nothing: these are definitions.
use Rattle.std.specs.Prelude.{ℕ, [], ◌∷◌, ◌++◌, eqb}
use Rattle.field.specs.Bytes.{Bytes, ascii, pick}

-- 01, Text run: five signs have an escape, and any other byte stays. 000 replaces `&` before the four others, which have `&` in their
-- escapes, so that each byte of the text is replaced once; `five_replacements` (proofs/EscapeLaws.antt) says so
unfoldable pub escape_byte : ℕ → Bytes
escape_byte c =
    pick (eqb c 38) (ascii "&amp;")
    (pick (eqb c 60) (ascii "&lt;")
    (pick (eqb c 62) (ascii "&gt;")
    (pick (eqb c 39) (ascii "&#39;")
    (pick (eqb c 34) (ascii "&quot;")
    (c ∷ [])))))

unfoldable pub escape_html : Bytes → Bytes
escape_html [] = []
escape_html (c ∷ cs) = escape_byte c ++ escape_html cs

-- str::replace of a character of one byte
unfoldable pub replace : ℕ → Bytes → Bytes → Bytes
replace a w [] = []
replace a w (c ∷ cs) = pick (eqb c a) w (c ∷ []) ++ replace a w cs
