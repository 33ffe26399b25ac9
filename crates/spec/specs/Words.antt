-- The words of demand 3 about one template, as 01 defines them: well nested, the place of a dynamic expression, a filled template.
-- Assumes nothing: these are definitions.
use Rattle.std.specs.Prelude.{ℕ, ◌≡◌, Bool, true, false, ◌&&◌, ◌||◌, not, List, [], ◌∷◌, ◌++◌, T, eqb}
use Rattle.std.proofs.Math.Option.{Option, none, some}
use Rattle.field.specs.Bytes.{Bytes, pick, same}
use Rattle.names.specs.Names.{is_void_element, small_letters}

-- ---- well nested: read byte by byte

pub data Reading : Type 0 where
  outside : List Bytes → Reading  -- outside tags; the open names, the last opened first
  inside_tag : List Bytes → Bytes → Reading  -- behind a `<`; what stands behind it so far
  ill : Reading

-- 02, A10: names are compared in small letters, the 14 too. What is nested by bytes as well is said beside it
pub data Comparison : Type 0 where
  in_small_letters : Comparison
  by_bytes : Comparison

unfoldable pub compared : Comparison → Bytes → Bytes
compared in_small_letters n = small_letters n
compared by_bytes n = n

-- a tag's name runs to a space or to the end
unfoldable pub to_space : Bytes → Bytes
to_space [] = []
to_space (c ∷ cs) = pick (eqb c 32) [] (c ∷ to_space cs)

-- a closing tag closes the last opened name
unfoldable pub close_tag : List Bytes → Bytes → Reading
close_tag [] n = ill
close_tag (m ∷ open_names) n = pick (same m n) (outside open_names) ill

-- an opening tag opens its name, the 14 excepted
unfoldable pub open_tag : List Bytes → Bytes → Reading
open_tag open_names n = pick (is_void_element n) (outside open_names) (outside (n ∷ open_names))

-- the tag whose text between `<` and `>` is given
unfoldable pub end_tag : Comparison → List Bytes → Bytes → Reading
end_tag how open_names [] = open_tag open_names []
end_tag how open_names (c ∷ cs) = pick (eqb c 47) (close_tag open_names (compared how (to_space cs))) (open_tag open_names (compared how (to_space (c ∷ cs))))

unfoldable pub read_byte : Comparison → Reading → ℕ → Reading
read_byte how (outside ns) c = pick (eqb c 60) (inside_tag ns []) (pick (eqb c 62) ill (outside ns))
read_byte how (inside_tag ns b) c = pick (eqb c 60) ill (pick (eqb c 62) (end_tag how ns b) (inside_tag ns (b ++ (c ∷ []))))
read_byte how ill c = ill

unfoldable pub read_markup : Comparison → Reading → Bytes → Reading
read_markup how m [] = m
read_markup how m (c ∷ cs) = read_markup how (read_byte how m c) cs

-- all that is opened is closed at the end
unfoldable pub WellNestedBy : Comparison → Bytes → Type 0
WellNestedBy how w = read_markup how (outside []) w ≡ outside []

abbrev pub WellNested : Bytes → Type 0
WellNested w = WellNestedBy in_small_letters w

-- neither `<` nor `>`
unfoldable pub free : Bytes → Bool
free [] = true
free (c ∷ cs) = not (eqb c 60) && (not (eqb c 62) && free cs)

-- ---- the place of a dynamic expression

-- what stands behind the last `<`
unfoldable pub behind_last : Bytes → Option Bytes
behind_last [] = none
behind_last (c ∷ cs) = elim (behind_last cs) [ some t ↦ some t | none ↦ pick (eqb c 60) (some cs) none ]

unfoldable pub holds : ℕ → Bytes → Bool
holds x [] = false
holds x (c ∷ cs) = eqb c x || holds x cs

unfoldable pub starts_with : ℕ → Bytes → Bool
starts_with x [] = false
starts_with x (c ∷ cs) = eqb c x

-- no `>` anywhere behind the last `<`, and no `/` right behind it
unfoldable pub opening : Option Bytes → Bool
opening none = false
opening (some t) = not (holds 62 t) && not (starts_with 47 t)

unfoldable pub inside_opening_tag : Bytes → Bool
inside_opening_tag joined = opening (behind_last joined)

-- for each dynamic expression, whether it lies inside an opening tag: by the strings before it, joined
unfoldable pub places_after : Bytes → List Bytes → List Bool
places_after joined [] = []
places_after joined (s ∷ []) = []
places_after joined (s ∷ t ∷ ss) = inside_opening_tag (joined ++ s) ∷ places_after (joined ++ s) (t ∷ ss)

abbrev pub places : List Bytes → List Bool
places ss = places_after [] ss

-- ---- a filled template: first string, first filling, second string, and so on

unfoldable pub filled : List Bytes → List Bytes → Bytes
filled [] fs = []
filled (s ∷ ss) [] = s ++ filled ss []
filled (s ∷ ss) (f ∷ fs) = s ++ (f ++ filled ss fs)

-- inside opening tags a text free of both signs, elsewhere well-nested markup
unfoldable pub Fits : Comparison → Bool → Bytes → Type 0
Fits how true x = T (free x)
Fits how false x = WellNestedBy how x

unfoldable pub AllFit : Comparison → List Bool → List Bytes → Type 0
AllFit how [] [] = Unit {0}
AllFit how [] (f ∷ fs) = ⊥
AllFit how (b ∷ bs) [] = ⊥
AllFit how (b ∷ bs) (f ∷ fs) = Fits how b f × AllFit how bs fs
