-- What A13 asks of a page, as a number: that it passes what A7 checks on the way down, where a number may be of any size, and that its templates
-- have the numbers from 1 on, each in one record and one call. Assumes nothing: these are definitions.
use Rattle.std.specs.Prelude.{ℕ, zero, suc, ◌+◌, ◌≡◌, Bool, true, ◌&&◌, List, [], ◌∷◌, ◌++◌, eqb, length}
use Rattle.field.specs.Bytes.{pick}
use Rattle.field.specs.Row.{Row, end, loose, field, read}
use Rattle.refusal.specs.Refusal.{Fine, verdict_number}
use Rattle.page.specs.Tree.{choose}
use Rattle.spec.specs.Transform.{bit}
use Rattle.spec.specs.Demand.{recorded_in, templates_in, called_in, up_to, strings_in, Each84}
use Rattle.outs.specs.Held.{read_out}
use Rattle.outs.specs.PageOut.{check_page_out}
use Rattle.outs.specs.Templates.{check_templates}
use Rattle.outs.specs.declared.Kind.TheVariants.{New}
use Rattle.convert.specs.Convert.{agrees, number_unless}
use Rattle.catalogue.specs.Page.{Body, Request, Format}
use Rattle.catalogue.specs.Numbers.{by_rows}
use Rattle.catalogue.specs.Catalogue.{four}

-- ---- kinds

-- A7: the kinds in each record are those that its strings say
unfoldable pub all_agree : Row → Bool
all_agree end = true
all_agree (loose b) = true
all_agree (field t f i r) = agrees f (strings_in i) && all_agree r

-- ---- numbers

-- the numbers of the 84s, in order of the row
unfoldable pub recorded_numbers : Row → List ℕ
recorded_numbers end = []
recorded_numbers (loose b) = []
recorded_numbers (field t f i r) = pick (eqb t 0x84) (four f ∷ recorded_numbers r) (recorded_numbers r)

-- the numbers of the 90s at any depth, in order of the row
unfoldable pub called_numbers : Row → List ℕ
called_numbers end = []
called_numbers (loose b) = []
called_numbers (field t f i r) = pick (eqb t 0x90) (four f ∷ []) [] ++ (called_numbers i ++ called_numbers r)

-- how often m is among them
unfoldable pub occurrences : ℕ → List ℕ → ℕ
occurrences m [] = 0
occurrences m (k ∷ ks) = bit (eqb k m) 1 + occurrences m ks

-- each of the numbers 1 to n is among them exactly once
unfoldable pub once : ℕ → List ℕ → Bool
once zero ks = true
once (suc n) ks = eqb (occurrences (suc n) ks) 1 && once n ks

-- and no other is
unfoldable pub each_once : ℕ → List ℕ → Bool
each_once n ks = eqb (length ks) n && once n ks

-- ---- the whole

-- how many templates a page has
unfoldable pub forms : Body → ℕ
forms x = templates_in (read x.templates)

-- A13: recorded are the numbers 1, 2 .. up to how many records there are, and called are the same
unfoldable pub numbered : Body → Bool
numbered x = each_once (forms x) (recorded_numbers (read x.templates)) && each_once (forms x) (called_numbers (read_out 4 x.page_out))

-- one number, and the next where it is 0
unfoldable pub first_of : ℕ → (Unit {0} → ℕ) → ℕ
first_of n v = choose (eqb n 0) v λ _. n

-- A13: first what A7 checks, templates before page out, then 17; 0 where nothing is refused
unfoldable pub judge : Body → ℕ
judge x =
    first_of (verdict_number (check_templates New x.templates)) λ _.
    first_of (verdict_number (check_page_out 4 x.page_out)) λ _.
    number_unless (all_agree (read x.templates) && numbered x) 17

-- the same in the words of demand 3: what a page meets that is taken
pub record Meets (x : Body) : Type 0 where
  pub templates_are : check_templates New x.templates ≡ Fine
  pub page_out_is : check_page_out 4 x.page_out ≡ Fine
  pub kinds_are : Each84 (λ front strings. agrees front (strings_in strings) ≡ true) (read x.templates)
  pub recorded_once : (m : ℕ) → recorded_in m (read x.templates) ≡ up_to m (forms x)
  pub called_once : (m : ℕ) → called_in m (read_out 4 x.page_out) ≡ up_to m (forms x)

-- the catalogue of the project's templates and page outs
unfoldable pub project : Request → Format
project q = by_rows q judge forms
