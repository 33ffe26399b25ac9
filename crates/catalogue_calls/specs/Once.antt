-- Numbers as they stood before their page arrived, and what a walk over them answers that looks at one window of them. Assumes nothing: these are
-- definitions.
use Rattle.std.specs.Prelude.{ℕ, ◌+◌, ◌*◌, ◌/◌, ◌%◌, ◌≤◌, ◌<◌, ◌≡◌, Bool, true, false, List, map, length, get_or}
use Rattle.std.specs.Int.{bit_at}
use Rattle.catalogue.specs.Shares.{total}
use Rattle.catalogue.specs.Numbers.{full_turn, opposite}
use Rattle.catalogue.specs.Judged.{occurrences, each_once}

-- A13: the form n of a page is n plus the count of forms before it, so each number goes back by that count
unfoldable pub lowered_by : ℕ → List ℕ → List ℕ
lowered_by n ms = map (λ m. (m + opposite n) % full_turn) ms

-- ---- windows: nothing from here on needs belief

-- the mark of a place in words of 64 bits, 1 where it is set
unfoldable pub mark_at : List ℕ → ℕ → ℕ
mark_at ws i = bit_at (get_or ws (i / 64) 0) (i % 64)

-- a place that had no mark has one, or it had one
pub record Marked (ws : List ℕ) (i : ℕ) (ws' : List ℕ) : Type 0 where
  pub unmarked : mark_at ws i ≡ 0
  pub marked : mark_at ws' i ≡ 1
  pub others : (j : ℕ) → (j ≡ i → ⊥) → mark_at ws' j ≡ mark_at ws j

abbrev pub Marks : List ℕ → ℕ → Bool → List ℕ → Type 0
Marks ws i true ws' = Marked ws i ws'
Marks ws i false ws' = mark_at ws i ≡ 1

-- how many of the numbers are from 1 to n
unfoldable pub within : ℕ → List ℕ → ℕ
within n ks = total (λ m. occurrences m ks) n

-- there are n numbers, each from 1 to n, and none of the 64 times w numbers behind low stands twice
pub record Clear (n low w : ℕ) (ks : List ℕ) : Type 0 where
  pub count : length ks ≡ n
  pub range : within n ks ≡ n
  pub single : (i : ℕ) → i < 64 * w → occurrences (low + 1 + i) ks ≤ 1

abbrev pub Window : (n low w : ℕ) → List ℕ → Bool → Type 0
Window n low w ks true = Clear n low w ks
Window n low w ks false = each_once n ks ≡ false
