-- The turns of the loop once more, with the state as the loop holds it: a mode, and what there is in it. Assumes nothing.
use Prim.Native.Nat.{ℕ, ◌+◌, ◌-◌, ◌<◌}
use mathlib.Core.Path.{◌≡◌, refl, sym, ◌∙◌, ap, subst}
use mathlib.Core.Bool.{true, false}
use mathlib.Core.List.{List}
use native.Mathlib.Omega.{arith}
use lib.ListN.{length, get_or}
use borrow.Author.Tests.{ne_eqb}
use Rattle.sums.specs.Choice.{choose, digit}
use Rattle.sums.specs.Value.{Worked, upward}
use Rattle.sums.specs.Machine.{sum_of}
use Rattle.sums.specs.declared.reader.Before.{Before}
use Rattle.sums.specs.declared.reader.Before.TheVariants.{NoSum, SumPlus, SumMinus}
use Rattle.sums.specs.declared.reader.Mode.{Mode}
use Rattle.sums.specs.declared.reader.Mode.TheVariants as M
use Rattle.std.specs.Prelude.{Some, None}
use Rattle.sums.specs.Small.{Factor, Waiting, State, Awaits, Digits, Behind, Open, Close, Refused}
use Rattle.sums.specs.Small.{finished, times_by, grown, awaits, act_behind, act_awaits, act_digits, act, ended, state_of}
use Rattle.sums.proofs.Tests.{takes, leaves}
use Rattle.sums.proofs.Loop.{Going, goes, refuses, again, over, lighter}

abbrev pub waits : Before → Factor → Waiting
waits b f = record { before = b; factor = f }

module _ {s : List ℕ} {fs : List ℕ} {top i : ℕ} (n : ℕ) (b : Before) (f : Factor) (g : Going s fs top i (Digits n (waits b f))) where
  -- ---- in a number
  pub digit_on : i < length s → digit (get_or s i 0) ≡ true → {m : ℕ} → m ≡ grown n (get_or s i 0) → Going s fs top (i + 1) (Digits m (waits b f))
  unfolding act act_digits
  digit_on l d {m} u = subst (λ (z : ℕ). Going s fs top (i + 1) (Digits z (waits b f))) (sym u) (goes g l (takes _ _ _ d) refl)

  -- what ends a number is looked at once more, behind it
  pub digits_done : i < length s → digit (get_or s i 0) ≡ false → {v : Worked} → v ≡ times_by f (upward n) → Going s fs top i (Behind b v)
  unfolding act act_digits
  digits_done l d {v} q =
      subst (λ (z : Worked). Going s fs top i (Behind b z)) (sym q)
      (again g l (Behind b (times_by f (upward n))) (leaves _ _ _ d) (lighter n (waits b f) (times_by f (upward n))))

  -- and so it is at the end of the text
  pub digits_over : i ≡ length s → {v : Worked} → v ≡ times_by f (upward n) → Going s fs top i (Behind b v)
  unfolding ended
  digits_over e {v} q =
      subst (λ (z : Worked). Going s fs top i (Behind b z)) (sym q)
      (over g e (Behind b (times_by f (upward n))) refl (lighter n (waits b f) (times_by f (upward n))))

module _ {s : List ℕ} {fs : List ℕ} {top i : ℕ} (b : Before) (f : Factor) (y : Worked) where
  -- ---- an operand is awaited
  module _ (g : Going s fs top i (state_of M.Awaits b f y)) (l : i < length s) where
    pub space_awaits : get_or s i 0 ≡ 32 → Going s fs top (i + 1) (state_of M.Awaits b f y)
    unfolding act act_awaits state_of choose
    space_awaits e = goes g l (sym (ap (act (Awaits (waits b f))) e)) refl

    pub zero_on : get_or s i 0 ≡ 48 → {v : Worked} → v ≡ times_by f (upward 0) → Going s fs top (i + 1) (state_of M.Behind b f v)
    unfolding act act_awaits state_of choose
    zero_on e {v} q = subst (λ (z : Worked). Going s fs top (i + 1) (Behind b z)) (sym q) (goes g l (sym (ap (act (Awaits (waits b f))) e)) refl)

    pub opening : get_or s i 0 ≡ 40 → Open (waits b f) ≡ act (state_of M.Awaits b f y) (get_or s i 0)
    unfolding act act_awaits state_of choose digit
    opening e = sym (ap (act (Awaits (waits b f))) e)

    module _ (t : get_or s i 0 ≡ 32 → ⊥) (z : get_or s i 0 ≡ 48 → ⊥) where
      pub first_on : digit (get_or s i 0) ≡ true → {m : ℕ} → m ≡ get_or s i 0 - 48 → Going s fs top (i + 1) (Digits m (waits b f))
      unfolding act act_awaits state_of
      first_on d {m} u =
          subst (λ (z : ℕ). Going s fs top (i + 1) (Digits z (waits b f))) (sym u)
          (goes g l (takes _ _ _ d ∙ leaves _ _ _ (ne_eqb (get_or s i 0) 48 z) ∙ leaves _ _ _ (ne_eqb (get_or s i 0) 32 t)) refl)

      pub no_operand : digit (get_or s i 0) ≡ false → (get_or s i 0 ≡ 40 → ⊥) → None ≡ sum_of s
      unfolding act act_awaits state_of
      no_operand d o =
          refuses g l (leaves _ _ _ (ne_eqb (get_or s i 0) 40 o) ∙ leaves _ _ _ d ∙ leaves _ _ _ (ne_eqb (get_or s i 0) 48 z) ∙ leaves _ _ _ (ne_eqb (get_or s i 0) 32 t)) refl

  -- ---- behind an operand
  module _ (g : Going s fs top i (state_of M.Behind b f y)) (l : i < length s) where
    pub space_behind : get_or s i 0 ≡ 32 → Going s fs top (i + 1) (state_of M.Behind b f y)
    unfolding act act_behind state_of choose
    space_behind e = goes g l (sym (ap (act (Behind b y)) e)) refl

    pub plus_on : get_or s i 0 ≡ 43 → {v : Worked} → v ≡ finished b y → Going s fs top (i + 1) (state_of M.Awaits (SumPlus v) None y)
    unfolding act act_behind state_of choose
    plus_on e {v} q = subst (λ (z : Worked). Going s fs top (i + 1) (awaits (SumPlus z))) (sym q) (goes g l (sym (ap (act (Behind b y)) e)) refl)

    pub minus_on : get_or s i 0 ≡ 45 → {v : Worked} → v ≡ finished b y → Going s fs top (i + 1) (state_of M.Awaits (SumMinus v) None y)
    unfolding act act_behind state_of choose
    minus_on e {v} q = subst (λ (z : Worked). Going s fs top (i + 1) (awaits (SumMinus z))) (sym q) (goes g l (sym (ap (act (Behind b y)) e)) refl)

    pub times_on : get_or s i 0 ≡ 42 → Going s fs top (i + 1) (state_of M.Awaits b (Some y) y)
    unfolding act act_behind state_of choose
    times_on e = goes g l (sym (ap (act (Behind b y)) e)) refl

    pub closing : get_or s i 0 ≡ 41 → {v : Worked} → v ≡ finished b y → Close v ≡ act (state_of M.Behind b f y) (get_or s i 0)
    unfolding act act_behind state_of choose
    closing e {v} q = ap Close q ∙ sym (ap (act (Behind b y)) e)

    pub no_operator : (get_or s i 0 ≡ 32 → ⊥) → (get_or s i 0 ≡ 43 → ⊥) → (get_or s i 0 ≡ 45 → ⊥) → (get_or s i 0 ≡ 42 → ⊥) → (get_or s i 0 ≡ 41 → ⊥) → None ≡ sum_of s
    unfolding act act_behind state_of
    no_operator t p m x o =
        refuses g l
        (leaves _ _ _ (ne_eqb (get_or s i 0) 41 o) ∙ leaves _ _ _ (ne_eqb (get_or s i 0) 42 x) ∙ leaves _ _ _ (ne_eqb (get_or s i 0) 45 m) ∙ leaves _ _ _ (ne_eqb (get_or s i 0) 43 p) ∙ leaves _ _ _ (ne_eqb (get_or s i 0) 32 t))
        refl

  -- ---- a space
  pub space_on : (m : Mode) → Going s fs top i (state_of m b f y) → i < length s → get_or s i 0 ≡ 32 → Going s fs top (i + 1) (state_of m b f y)
  space_on M.Awaits g l e = space_awaits g l e
  space_on M.Behind g l e = space_behind g l e
