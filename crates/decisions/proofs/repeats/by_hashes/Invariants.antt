use mathlib.Core.List.{map}
use mathlib.Core.Path.{◌≡◌}
use lib.ListN.{length}
use Rattle.decisions.specs.Repeats.{name_in, names_in}
use Rattle.decisions.proofs.RepeatLaws.{Passed, Noted, low_key, high_key}
use Rattle.decisions.proofs.repeats.by_hashes.Given as goal

abbrev pub invariant-loop-k : goal.invariant-loop-k
invariant-loop-k l =
    Passed (names_in l.s) (map (λ p. name_in p.1.now) l.yielded) (names_in l.k-iterator.iter.0.now)
    × (l.k-iterator.count ≡ length l.yielded)
    × Noted (low_key (length l.fn.low)) l.low (map (λ p. name_in p.1.now) l.yielded)
    × Noted (high_key (length l.fn.high)) l.high (map (λ p. name_in p.1.now) l.yielded)
