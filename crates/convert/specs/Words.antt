-- 02, A7: what demand 3 speaks of in templates out and page out of either form, in its own words; a template's kinds are those of its strings;
-- and what may become of both on the way down and up again.
-- Assumes nothing: these are definitions.
use Rattle.std.specs.Prelude.{ℕ, ◌+◌, ◌≤◌, ◌≡◌, Bool, List, [], ◌∷◌, ◌++◌, eqb, length, take}
use Rattle.std.proofs.Math.Option.{some}
use Rattle.field.specs.Bytes.{Bytes, pick}
use Rattle.field.specs.Number.{number_of}
use Rattle.field.specs.Row.{Row, end, loose, field, read}
use Rattle.outs.specs.Held.{read_out}
use Rattle.spec.specs.Output.{Layout, layout_80, layout_84, kind_bytes}
use Rattle.spec.specs.Transform.{bit, stands}
use Rattle.spec.specs.Demand.{count_in, kinds_behind, recorded_in, called_in, strings_in, kinds_in, AllTags, Each84}
use Rattle.convert.specs.Kinds.{kinds_by_strings}
use Rattle.convert.specs.Convert.{Written, refused, converted, upgraded, downgraded}

-- a record: its number and its strings
pub data Recorded : Type 0 where
  recorded : ℕ → List Bytes → Recorded

-- all records of a layout, in order
unfoldable pub records_in : Layout → Row → List Recorded
records_in l end = []
records_in l (loose b) = []
records_in l (field t f i r) = pick (eqb t l.tag) (recorded (number_of (take l.width f)) (strings_in i) ∷ records_in l r) (records_in l r)

-- how many of them have the number m
unfoldable pub recorded_with : ℕ → List Recorded → ℕ
recorded_with m [] = 0
recorded_with m (recorded n ss ∷ rs) = bit (eqb n m) 1 + recorded_with m rs

-- a call: its number and its gaps
pub data Called : Type 0 where
  called : ℕ → List Bool → Called

-- all calls, at any depth, in order
unfoldable pub calls_in : Row → List Called
calls_in end = []
calls_in (loose b) = []
calls_in (field t f i r) = pick (eqb t 0x90) (called (number_of f) (kinds_in i) ∷ (calls_in i ++ calls_in r)) (calls_in i ++ calls_in r)

unfoldable pub called_with : ℕ → List Called → ℕ
called_with m [] = 0
called_with m (called n ks ∷ cs) = bit (eqb n m) 1 + called_with m cs

-- the bodies of the 82s
unfoldable pub imports_in : Row → List Bytes
imports_in end = []
imports_in (loose b) = []
imports_in (field t f i r) = pick (eqb t 0x82) (f ∷ imports_in r) (imports_in r)

-- an 84 has the count and the kinds that its strings give
pub record Kinded (front : Bytes) (strings : Row) : Type 0 where
  pub kinds : List Bool
  pub by_strings : kinds_by_strings (strings_in strings) ≡ some kinds
  pub counted : count_in front ≡ length kinds
  pub written : kinds_behind front ≡ kind_bytes kinds

-- up: of what demand 3 speaks of nothing changes
pub record SaysTheSame (t p : Bytes) (w : Written) : Type 0 where
  pub same_records : records_in layout_84 (read w.templates_out) ≡ records_in layout_80 (read t)
  pub recorded_alike : (m : ℕ) → recorded_in m (read w.templates_out) ≡ recorded_with m (records_in layout_80 (read t))
  pub nothing_else : AllTags 0x84 (read w.templates_out)
  pub all_kinded : Each84 Kinded (read w.templates_out)
  pub same_calls : calls_in (read_out 4 w.page_out) ≡ calls_in (read_out 2 p)
  pub called_alike : (m : ℕ) → called_in m (read_out 4 w.page_out) ≡ called_with m (calls_in (read_out 2 p))
  pub same_tags : (tag : ℕ) → stands tag (read_out 4 w.page_out) ≡ stands tag (read_out 2 p)
  pub same_imports : imports_in (read_out 4 w.page_out) ≡ imports_in (read_out 2 p)

-- down is refused for room alone, and what it gives comes up unchanged wherever there is room
pub data DownAndUp (t p : Bytes) (tr pr : ℕ) : Type 0 where
  no_room_for_templates : downgraded t p tr pr ≡ refused 12 → DownAndUp t p tr pr
  no_room_for_page : downgraded t p tr pr ≡ refused 13 → DownAndUp t p tr pr
  comes_back : (w : Written) → downgraded t p tr pr ≡ converted w →
      ((tr' pr' : ℕ) → length t ≤ tr' → length p ≤ pr' → upgraded w.templates_out w.page_out tr' pr' ≡ converted (record { templates_out = t; page_out = p })) → DownAndUp t p tr pr
