-- str::lines, and the line at a place of a text. Assumes nothing: these are definitions.
use Rattle.std.specs.Prelude.{◌≡◌, ℕ, suc, ◌+◌, ◌-◌, ◌≤◌, ◌<◌, Bool, false, ◌&&◌, ◌||◌, List, [], ◌∷◌, eqb, ltb, length, take, drop, Option, Some, None}
use Rattle.field.specs.Bytes.{Bytes, pick}
use Rattle.text.specs.declared.lines.Line.{Line}
use Rattle.text.specs.declared.lines.TextLine.{TextLine}
use Rattle.text.specs.declared.lines.Lines.{Lines}

abbrev pub starts_with_lf : Bytes → Bool
starts_with_lf [] = false
starts_with_lf (c ∷ cs) = eqb c 10

-- a byte in front of the first line; it is a line of its own where there is none
abbrev pub onto_first : ℕ → List Bytes → List Bytes
onto_first c [] = (c ∷ []) ∷ []
onto_first c (l ∷ ls) = (c ∷ l) ∷ ls

-- 01, Text run: lines end at LF or CR LF; nothing behind the last line end is no line. A CR that stands in front of an LF belongs to
-- the line's end, and any other CR to its line
unfoldable pub lines : Bytes → List Bytes
lines [] = []
lines (c ∷ cs) =
    pick (eqb c 10) ([] ∷ lines cs)
    (pick (eqb c 13 && starts_with_lf cs) (lines cs)
    (onto_first c (lines cs)))

-- how many bytes the first line has, without its end
unfoldable pub line_length : Bytes → ℕ
line_length [] = 0
line_length (c ∷ cs) = pick (eqb c 10 || (eqb c 13 && starts_with_lf cs)) 0 (suc (line_length cs))

-- how many it has with its end
unfoldable pub line_width : Bytes → ℕ
line_width [] = 0
line_width (c ∷ cs) = pick (eqb c 10) 1 (suc (line_width cs))

-- where the line that begins at a place of s ends, and where the next one begins
unfoldable pub line_at : Bytes → ℕ → Line
line_at s at = record { end = at + line_length (drop at s); next = at + line_width (drop at s) }

-- what a reader at a place of s gives: the line there, whether others stand before and behind it, and the place of the next one
abbrev pub ReadsLine : Bytes → ℕ → Option TextLine → ℕ → Type 0
ReadsLine s at None next = (length s ≤ at) × (next ≡ at)
ReadsLine s at (Some l) next =
    (at < length s) × (l.text.now ≡ take ((line_at s at).end - at) (drop at s)) × (l.has_before ≡ ltb 0 at) × (l.has_behind ≡ ltb next (length s)) × (next ≡ (line_at s at).next)

-- a step of the reader x, which leaves y
abbrev pub GivesLine : Lines → Option TextLine → Lines → Type 0
GivesLine x l y = (y.text.now ≡ x.text.now) × ReadsLine x.text.now x.place l y.place
