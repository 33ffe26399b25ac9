-- The check of a field's header, either way. Main statements: `header_fine`, `fine_header`. Assumes nothing.
use mathlib.Core.Path.{◌≡◌}
use mathlib.Core.Bool.{Bool}
use Prim.Native.Nat.{ℕ}
use lib.Dec.{T, leb}
use Rattle.refusal.specs.Refusal.{Verdict, Fine, unless}
use Rattle.refusal.specs.declared.Refusal.TheVariants as R
use Rattle.refusal.proofs.Verdicts.{after_fine, unless_fine, fine_after, fine_unless}
use Rattle.page.specs.Check.{check_header}
use Rattle.page.specs.Limits.{Deep}

pub header_fine : (ok : Bool) (d : ℕ) → check_header ok d ≡ Fine → T ok × Deep d
unfolding check_header
header_fine ok d e =
    let a = after_fine (unless ok R.Misplaced) (λ _. unless (leb d 48) R.TooDeep) e in
    (unless_fine ok R.Misplaced a.0, unless_fine (leb d 48) R.TooDeep a.1)

pub fine_header : (ok : Bool) (d : ℕ) → T ok → Deep d → check_header ok d ≡ Fine
unfolding check_header
fine_header ok d t h = fine_after (unless ok R.Misplaced) (λ _. unless (leb d 48) R.TooDeep) (fine_unless ok R.Misplaced t) (fine_unless (leb d 48) R.TooDeep h)
