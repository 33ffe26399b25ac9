-- The shape of a name as the code counts it. Main definition: `shape_tag`. Assumes nothing: these are definitions.
use Rattle.std.specs.Prelude.{ℕ, Bool, true, ◌&&◌, [], ◌∷◌, T, leb, eqb, Option, Some, None}
use Rattle.grammar.specs.Signs.{choose, separator}
use Rattle.grammar.specs.Syntax.{part, Name, short, no_hyphen}

-- the tag of a name's field: 40; 42 with a colon, 41 with points
unfoldable pub name_tag : Name → ℕ
name_tag [] = 0x40
name_tag (p ∷ []) = 0x40
name_tag (p ∷ part e v ∷ ps) = choose (eqb e 58) 0x42 0x41

-- of all parts
unfoldable pub all_short : Name → Bool
all_short [] = true
all_short (part d w ∷ ps) = short w && all_short ps

unfoldable pub all_plain : Name → Bool
all_plain [] = true
all_plain (part d w ∷ ps) = no_hyphen w && all_plain ps

-- of all behind the first
unfoldable pub all_points : Name → Bool
all_points [] = true
all_points (part d w ∷ ps) = eqb d 46 && all_points ps

unfoldable pub Separated : Name → Type 0
Separated [] = Unit {0}
Separated (part d w ∷ ps) = T (separator d) × Separated ps

-- by the count of parts, whether all have at most 128 bytes, none a hyphen, and points alone part them; none: no name of 01
unfoldable pub shape_tag : (parts : ℕ) (short plain points : Bool) → Option ℕ
shape_tag n s h p = choose s (choose (eqb n 1) (Some 0x40) (choose p (choose (h && leb n 8) (Some 0x41) None) (choose (eqb n 2) (Some 0x42) None))) None
