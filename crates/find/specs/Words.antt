-- 02, A11, in its words: the steps of a walk, counted; places and positions of records. Assumes nothing: these are definitions.
use Rattle.std.specs.Prelude.{ℕ, zero, suc, ◌+◌, ◌≤◌, ◌<◌, max, ◌≡◌, true, ◌⊎◌, List, [], ◌∷◌, eqb, length, take, get_or}
use Rattle.field.specs.Bytes.{Bytes, pick}
use Rattle.field.specs.Number.{number_of}
use Rattle.field.specs.Row.{Row, end, loose, field, bytes, read, Ended}
use Rattle.refusal.specs.Refusal.{Fine}
use Rattle.outs.specs.Templates.{check_templates}
use Rattle.outs.specs.declared.Kind.TheVariants.{New}
use Rattle.find.specs.Find.{Met, rising, absent, step, walk, none_met}

-- so many steps, each over one record, whether one waits or not
unfoldable pub steps : ℕ → List ℕ → ℕ → Row → Met → Met
steps zero ns p x m = m
steps (suc k) ns p end m = m
steps (suc k) ns p (loose b) m = m
steps (suc k) ns p (field t f i r) m = steps k ns (p + (3 + length f + length (bytes i))) r (step ns (number_of (take 4 f)) p m)

-- the records behind so many
unfoldable pub left : ℕ → Row → Row
left zero x = x
left (suc k) end = end
left (suc k) (loose b) = loose b
left (suc k) (field t f i r) = left k r

-- the walk is so many steps and no more: one waits before each of them, and behind the last none does, or no record is left
pub record Taken (ns : List ℕ) (p : ℕ) (x : Row) (m : Met) (k : ℕ) : Type 0 where
  pub steps_are : walk ns p x m ≡ steps k ns p x m
  pub counted : (walk ns p x m).records ≡ m.records + k
  pub one_waits : (j : ℕ) → j < k → (steps j ns p x m).waiting ≡ 0 → ⊥
  pub stops : ((steps k ns p x m).waiting ≡ 0) ⊎ Ended (left k x)

-- the place of the first record with a number, of records that begin at p; or absent
unfoldable pub place_of : ℕ → ℕ → Row → ℕ
place_of n p end = absent
place_of n p (loose b) = absent
place_of n p (field t f i r) = pick (eqb (number_of (take 4 f)) n) p (place_of n (p + (3 + length f + length (bytes i))) r)

-- the numbers of the records, in their order
unfoldable pub numbers_of : Row → List ℕ
numbers_of end = []
numbers_of (loose b) = []
numbers_of (field t f i r) = number_of (take 4 f) ∷ numbers_of r

-- no record has the number
abbrev pub Missing : ℕ → Row → Type 0
Missing n x = (j : ℕ) → j < length (numbers_of x) → get_or (numbers_of x) j 0 ≡ n → ⊥

-- the position, from 1, of the first record with a number; or the count of all records, if it is absent
unfoldable pub position_of : ℕ → Row → ℕ
position_of n end = 0
position_of n (loose b) = 0
position_of n (field t f i r) = pick (eqb (number_of (take 4 f)) n) 1 (suc (position_of n r))

-- 02, A11: the position of the last one found, or all records if one is absent, or zero if none was named
unfoldable pub read_up_to : List ℕ → Row → ℕ
read_up_to [] x = 0
read_up_to (n ∷ ns) x = max (position_of n x) (read_up_to ns x)

-- 02, A11, of an answer that is no refusal: for each asked number the place of the first record with it, or absent; absent behind them; the count of
-- records read, which is that of the steps taken
pub record LookedUp (t : Bytes) (ns : List ℕ) (records : ℕ) (places : List ℕ) : Type 0 where
  pub checked : check_templates New t ≡ Fine
  pub not_many : length ns ≤ 256
  pub in_order : rising ns ≡ true
  pub place_is : (k : ℕ) → k < length ns → get_or places k 0 ≡ place_of (get_or ns k 0) 0 (read t)
  pub behind_is : (k : ℕ) → length ns ≤ k → k < 256 → get_or places k 0 ≡ absent
  pub records_is : records ≡ read_up_to ns (read t)
  pub steps_taken : Taken ns 0 (read t) (none_met ns) records
