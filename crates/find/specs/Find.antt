-- 02, A11: up to 256 templates looked up by number in one walk over templates out. Assumes nothing: these are definitions.
use Rattle.std.specs.Prelude.{ℕ, suc, ◌+◌, ◌-◌, ◌^◌, Bool, true, ◌&&◌, List, [], ◌∷◌, eqb, leb, ltb, length, take, get_or, set, replicate}
use Rattle.field.specs.Bytes.{Bytes, pick}
use Rattle.field.specs.Number.{number_of}
use Rattle.field.specs.Row.{Row, end, loose, field, bytes, read}
use Rattle.refusal.specs.Refusal.{verdict_number}
use Rattle.outs.specs.Templates.{check_templates}
use Rattle.outs.specs.declared.Kind.TheVariants.{New}

-- ---- what is asked

-- strictly
unfoldable pub rising : List ℕ → Bool
rising [] = true
rising (n ∷ []) = true
rising (n ∷ m ∷ ns) = ltb n m && rising (m ∷ ns)

abbrev pub asked_well : List ℕ → Bool
asked_well ns = leb (length ns) 256 && rising ns

-- ---- the walk

-- no place in any buffer: all bits set
abbrev pub absent : ℕ
absent = 2 ^ 64 - 1

-- what was met so far: a place for each number that was asked for, how many of them still wait for theirs, and how many records were read
pub record Met : Type 0 where
  pub places : List ℕ
  pub waiting : ℕ
  pub records : ℕ

-- where a number stands among those that are asked for; their count, where it does not
unfoldable pub index_of : ℕ → List ℕ → ℕ
index_of n [] = 0
index_of n (m ∷ ns) = pick (eqb m n) 0 (suc (index_of n ns))

-- the first record with a number is the one that counts
abbrev pub wanted : List ℕ → ℕ → Met → Bool
wanted ns n m = ltb (index_of n ns) (length ns) && eqb (get_or m.places (index_of n ns) 0) absent

-- one record, with its number and its place
abbrev pub step : List ℕ → ℕ → ℕ → Met → Met
step ns n p m =
    pick (wanted ns n m) (record { places = set m.places (index_of n ns) p; waiting = m.waiting - 1; records = suc m.records })
    (record { places = m.places; waiting = m.waiting; records = suc m.records })

-- record by record, until none waits
unfoldable pub walk : List ℕ → ℕ → Row → Met → Met
walk ns p end m = m
walk ns p (loose b) m = m
walk ns p (field t f i r) m = pick (eqb m.waiting 0) m (walk ns (p + (3 + length f + length (bytes i))) r (step ns (number_of (take 4 f)) p m))

abbrev pub none_met : List ℕ → Met
none_met ns = record { places = replicate 256 absent; waiting = length ns; records = 0 }

-- ---- the answer

-- 3, 4 and 6 for the templates, then 20
unfoldable pub find_number : Bytes → List ℕ → ℕ
find_number t ns = pick (eqb (verdict_number (check_templates New t)) 0) (pick (asked_well ns) 0 20) (verdict_number (check_templates New t))

-- a refusal finds nothing, and reads nothing
unfoldable pub found : Bytes → List ℕ → Met
found t ns = pick (eqb (find_number t ns) 0) (walk ns 0 (read t) (none_met ns)) (none_met [])
