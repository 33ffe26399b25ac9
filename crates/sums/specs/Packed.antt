-- What waits for an open bracket as words: a number that tells what it is, and a size. Nothing here needs belief. Assumes nothing.
use Rattle.std.specs.Prelude.{ℕ, ◌+◌, ◌-◌, leb, eqb, Some, None}
use Rattle.sums.specs.Choice.{choose}
use Rattle.sums.specs.Value.{Worked}
use Rattle.sums.specs.declared.value.Sum.TheVariants.{Plus, Minus}
use Rattle.sums.specs.declared.reader.Before.{Before}
use Rattle.sums.specs.declared.reader.Before.TheVariants.{NoSum, SumPlus, SumMinus}
use Rattle.sums.specs.Small.{Factor}

abbrev pub worked_kind : Worked → ℕ
worked_kind None = 0
worked_kind (Some (Plus n)) = 1
worked_kind (Some (Minus n)) = 2

abbrev pub worked_size : Worked → ℕ
worked_size None = 0
worked_size (Some (Plus n)) = n
worked_size (Some (Minus n)) = n

unfoldable pub worked_from : ℕ → ℕ → Worked
worked_from k n = choose (eqb k 0) None (choose (eqb k 1) (Some (Plus n)) (Some (Minus n)))

unfoldable pub before_tag : Before → ℕ
before_tag NoSum = 0
before_tag (SumPlus w) = 1 + worked_kind w
before_tag (SumMinus w) = 4 + worked_kind w

unfoldable pub before_size : Before → ℕ
before_size NoSum = 0
before_size (SumPlus w) = worked_size w
before_size (SumMinus w) = worked_size w

unfoldable pub before_of : ℕ → ℕ → Before
before_of t v = choose (eqb t 0) NoSum (choose (leb t 3) (SumPlus (worked_from (t - 1) v)) (SumMinus (worked_from (t - 4) v)))

unfoldable pub factor_tag : Factor → ℕ
factor_tag None = 0
factor_tag (Some w) = 1 + worked_kind w

unfoldable pub factor_size : Factor → ℕ
factor_size None = 0
factor_size (Some w) = worked_size w

unfoldable pub factor_of : ℕ → ℕ → Factor
factor_of t v = choose (eqb t 0) None (Some (worked_from (t - 1) v))

-- how many words the value of what waits takes
unfoldable pub words : ℕ → ℕ
words t = choose (eqb t 0) 0 1
