-- 02, A8: the HTML of an order is the plain writing of static strings and fillings in turn. Assumes nothing: these are definitions.
use Rattle.std.specs.Prelude.{ℕ, ◌&&◌, ◌+◌, List, [], ◌∷◌, ◌++◌, eqb, take}
use Rattle.std.proofs.Math.Option.{Option, none, some}
use Rattle.field.specs.Bytes.{Bytes, pick}
use Rattle.field.specs.Number.{number_of}
use Rattle.field.specs.Row.{Row, end, loose, field}
use Rattle.text.specs.Escape.{escape_html}
use Rattle.page.specs.Tree.{choose}
use Rattle.spec.specs.Demand.{strings_in, kinds_behind}
use Rattle.spec.specs.Words.{free}

-- a template to be filled: the kind of each gap, and the static strings
pub record Template : Type 0 where
  pub kinds : Bytes
  pub strings : List Bytes

-- the records with a number: how many, and the first
unfoldable pub recorded : ℕ → Row → ℕ
recorded n end = 0
recorded n (loose b) = 0
recorded n (field t f i r) = pick (eqb (number_of (take 4 f)) n) 1 0 + recorded n r

unfoldable pub first_with : ℕ → Row → Option Template
first_with n end = none
first_with n (loose b) = none
first_with n (field t f i r) = pick (eqb (number_of (take 4 f)) n) (some (record { kinds = kinds_behind f; strings = strings_in i })) (first_with n r)

-- an asked number that is unknown or recorded twice has none
unfoldable pub template_of : Row → ℕ → Option Template
template_of ts n = pick (eqb (recorded n ts) 1) (first_with n ts) none

-- ---- fillings

-- a text: an 86 without `<` and `>` fits a gap of kind 1, an 87 one of kind 2
unfoldable pub text_filling : (kind tag : ℕ) → Bytes → Option Bytes
text_filling k t b = pick (eqb t 0x86) (pick (eqb k 1 && free b) (some b) none) (pick (eqb k 2) (some (escape_html b)) none)

-- a static string, a filling, and what comes behind them
unfoldable pub in_turn : Bytes → Option Bytes → Option Bytes → Option Bytes
in_turn s none y = none
in_turn s (some x) none = none
in_turn s (some x) (some y) = some (s ++ (x ++ y))

-- behind the last filling: the last string, where no gap is left
unfoldable pub last_string : Bytes → List Bytes → Option Bytes
last_string [] [] = none
last_string [] (s ∷ []) = some s
last_string [] (s ∷ t ∷ ss) = none
last_string (k ∷ ks) ss = none

-- gaps and strings against the fillings; an inner 85 fits a gap of kind 2
unfoldable pub fill_gaps : Row → Bytes → List Bytes → Row → Option Bytes
fill_gaps ts ks ss end = last_string ks ss
fill_gaps ts ks ss (loose b) = none
fill_gaps ts [] ss (field t f i r) = none
fill_gaps ts (k ∷ ks) [] (field t f i r) = none
fill_gaps ts (k ∷ ks) (s ∷ ss) (field t f i r) =
    in_turn s
    (choose (eqb t 0x85)
    (λ _. choose (eqb k 2) (λ _. elim (template_of ts (number_of f)) [ none ↦ none | some m ↦ fill_gaps ts m.kinds m.strings i ]) λ _. none) λ _.
    text_filling k t f)
    (fill_gaps ts ks ss r)

-- the HTML of an order, over the row that templates out read as; none where a count, a kind, a number or an attribute text does not fit
unfoldable pub html_of : Row → Row → Option Bytes
html_of ts end = none
html_of ts (loose b) = none
html_of ts (field t f i r) = elim (template_of ts (number_of f)) [ none ↦ none | some m ↦ fill_gaps ts m.kinds m.strings i ]
