-- What every pass of the transform keeps, as one predicate for each thing that 000's functions handle: templates sound, tags within a
-- budget, flags raised only with cause. Definitions for the proofs of demand 3 and of acceptance; its counts are `Called`'s.
-- Assumes nothing.
use Prim.Native.Nat.{ℕ, suc, ◌+◌, ◌≤◌}
use mathlib.Core.Path.{◌≡◌}
use mathlib.Core.Bool.{Bool, false, ◌||◌, not}
use mathlib.Core.List.{List, [], ◌∷◌, ◌++◌}
use lib.Dec.{T, eqb}
use lib.ListN.{length}
use Rattle.field.specs.Bytes.{Bytes}
use Rattle.field.specs.Row.{Row, end, loose, field, Inside, only_bytes, fields_after, counted, counted_front, inside}
use Rattle.field.proofs.RowLaws.{Shaped}
use Rattle.spec.specs.Pass.{Template, Done, Pass, Raw, Mid, none, node, raw, Part, chars, gap, mark}
use Rattle.spec.specs.Transform.{stands}
use Rattle.spec.specs.Words.{Comparison, WellNestedBy, places, filled, AllFit}

-- ---- templates

-- whether a space comes last, where before the text it did or did not
unfoldable pub ends_spaced : Bool → Bytes → Bool
ends_spaced z [] = z
ends_spaced z (c ∷ cs) = ends_spaced (eqb c 32) cs

-- right before each dynamic expression inside an opening tag a space comes
unfoldable pub Spaced : Bool → List Bytes → List Bool → Type 0
Spaced z [] ks = Unit {0}
Spaced z (s ∷ ss) [] = Unit {0}
Spaced z (s ∷ ss) (k ∷ ks) = (T k → T (ends_spaced z s)) × Spaced (ends_spaced z s) ss ks

-- a template whose dynamic expressions are of these kinds
pub record Sound (t : Template) : Type 0 where
  pub one_more : length t.strings ≡ suc (length t.kinds)
  pub placed : places t.strings ≡ t.kinds
  pub spaced : Spaced false t.strings t.kinds
  pub nested : (how : Comparison) (fs : List Bytes) → AllFit how t.kinds fs → WellNestedBy how (filled t.strings fs)

unfoldable pub AllSound : List Template → Type 0
AllSound [] = Unit {0}
AllSound (t ∷ ts) = Sound t × AllSound ts

-- ---- one field, by its tag, front and fields

-- as the tag wants it: a text holds no field, a field no text in front but a number
unfoldable pub FormedBy : Inside → Bytes → Mid → Type 0
FormedBy only_bytes f none = Unit {0}
FormedBy only_bytes f (node t g i r) = ⊥
FormedBy only_bytes f (raw t r) = ⊥
FormedBy (fields_after k) f i = T (eqb (length f) k)
FormedBy (counted k) f i = T (eqb (length f) (counted_front k f))

-- neither a 30 nor a 31
abbrev pub no_tag : ℕ → Bool
no_tag t = not (eqb t 0x30 || eqb t 0x31)

abbrev pub attr_like : ℕ → Bool
attr_like t = eqb t 0x91 || eqb t 0x93

-- one field of that kind, and no tag still to be visited
unfoldable pub OneNode : Bool → Mid → Type 0
OneNode b none = ⊥
OneNode b (node t f i none) = attr_like t ≡ b
OneNode b (node t f i (node u g j r)) = ⊥
OneNode b (node t f i (raw q r)) = ⊥
OneNode b (raw t r) = ⊥

-- one field that is neither a jsxAttr call nor a choice
unfoldable pub OneField : Row → Type 0
OneField end = ⊥
OneField (loose b) = ⊥
OneField (field t f i end) = attr_like t ≡ false
OneField (field t f i (loose b)) = ⊥
OneField (field t f i (field u g j r)) = ⊥

-- ---- passes. `Fragments`: some 31 stands in the page

module _ (Fragments : Type 0) where
  -- what holds of a pass, whatever its value; its templates are sound unless it found a name that is void only in small letters
  pub record Kept {A : Type 0} (d : Done A) : Type 0 where
    pub sound : T (not d.flags.mixed) → AllSound d.templates
    pub fragments : T d.flags.left → Fragments

  -- the visit of a tag, which may take w numbers
  pub record GoodVisit (w : ℕ) (d : Done Row) : Type 0 where
    pub kept : Kept d
    pub bound : d.taken ≤ w
    pub one : OneField d.value
    pub shaped : Shaped d.value
    pub no_element : T (not d.flags.left) → stands 0x30 d.value ≡ false
    pub no_fragment : T (not d.flags.left) → stands 0x31 d.value ≡ false

  pub record GoodRaw (w : ℕ) (q : Raw) : Type 0 where
    pub visits : (n : ℕ) → GoodVisit w (q n)

  -- expressions between the passes: formed fields, no 30 or 31 but those still to be visited, which may take w numbers between them
  unfoldable pub Clean : Mid → ℕ → Type 0
  Clean none w = Unit {0}
  Clean (node t f i r) w = T (no_tag t) × FormedBy (inside t) f i × ((a : ℕ) × (b : ℕ) × (a + b ≤ w) × Clean i a × Clean r b)
  Clean (raw q r) w = (a : ℕ) × (b : ℕ) × (a + b ≤ w) × GoodRaw a q × Clean r b

  -- as a record, which shows its row and its weight
  pub record Still (w : ℕ) (m : Mid) : Type 0 where
    pub clean : Clean m w

  pub record GoodDone (w : ℕ) (d : Done Mid) : Type 0 where
    pub kept : Kept d
    pub left_over : ℕ  -- what the tags still to be visited may take
    pub bound : d.taken + left_over ≤ w
    pub clean : Clean d.value left_over

  -- a first pass, which with the visits of what it leaves may take w numbers
  abbrev pub GoodPass : ℕ → Pass Mid → Type 0
  GoodPass w p = (n : ℕ) → GoodDone w (p n)

  -- a dynamic expression of that kind
  pub record GoodGap (w : ℕ) (b : Bool) (p : Pass Mid) : Type 0 where
    pub good : GoodPass w p
    pub one : (n : ℕ) → OneNode b (p n).value

-- ---- what a template is made of, without its passes

pub data Piece : Type 0 where
  literal : Bytes → Piece
  hole : Bool → Piece

unfoldable pub piece_strings : Bytes → List Piece → List Bytes
piece_strings last [] = last ∷ []
piece_strings last (literal b ∷ ps) = piece_strings (last ++ b) ps
piece_strings last (hole k ∷ ps) = last ∷ piece_strings [] ps

unfoldable pub piece_kinds : List Piece → List Bool
piece_kinds [] = []
piece_kinds (literal b ∷ ps) = piece_kinds ps
piece_kinds (hole k ∷ ps) = k ∷ piece_kinds ps

module _ (Fragments : Type 0) where
  -- parts whose gaps are good, of the kinds that the pieces name, and whose marks leave no tag
  unfoldable pub GoodParts : List Part → List Piece → ℕ → Type 0
  GoodParts [] [] w = Unit {0}
  GoodParts [] (q ∷ qs) w = ⊥
  GoodParts (chars b ∷ ps) [] w = ⊥
  GoodParts (chars b ∷ ps) (literal c ∷ qs) w = (b ≡ c) × GoodParts ps qs w
  GoodParts (chars b ∷ ps) (hole k ∷ qs) w = ⊥
  GoodParts (gap p ∷ ps) [] w = ⊥
  GoodParts (gap p ∷ ps) (literal c ∷ qs) w = ⊥
  GoodParts (gap p ∷ ps) (hole k ∷ qs) w = (a : ℕ) × (b : ℕ) × (a + b ≤ w) × GoodGap Fragments a k p × GoodParts ps qs b
  GoodParts (mark f ∷ ps) qs w = T (not f.left) × GoodParts ps qs w
