-- What the walk leaves as it is: a place that was found, and all places behind those asked for. Main statements: `walk_keeps`, `behind_absent`.
-- Assumes nothing.
use mathlib.Core.Path.{◌≡◌, refl, sym, ap, ◌∙◌}
use mathlib.Core.Bool.{Bool, true, false, ◌&&◌}
use mathlib.Core.Logic.{◌⊎◌, inl, inr}
use Prim.Native.Nat.{ℕ, suc, ◌+◌, ◌-◌, ◌≤◌, ◌<◌}
use native.Mathlib.Omega.{arith}
use mathlib.Core.List.{List}
use lib.Dec.{eqb, ltb}
use lib.ListN.{length, take, get_or, set, get_or-replicate}
use lib.Seq.{get_or-set_other}
use borrow.Author.Tests.{eqb-true, ltb-true}
use Rattle.std.proofs.lemmas.Bool.{and_parts}
use Rattle.field.specs.Bytes.{Bytes, pick}
use Rattle.field.specs.Number.{number_of}
use Rattle.field.specs.Row.{Row, end, loose, field, bytes, read}
use Rattle.find.specs.Find.{Met, index_of, wanted, step, walk, none_met, absent}

-- not asked for, or found already
abbrev pub Settled : List ℕ → ℕ → Met → Type 0
Settled ns k m = (length ns ≤ k) ⊎ (get_or m.places k 0 ≡ absent → ⊥)

module _ (ns : List ℕ) (k : ℕ) where
  not_here : (n : ℕ) (m : Met) → Settled ns k m → wanted ns n m ≡ true → k ≡ index_of n ns → ⊥
  not_here n m s e h =
      let both = and_parts (ltb (index_of n ns) (length ns)) (eqb (get_or m.places (index_of n ns) 0) absent) e in
      by s (ltb-true (index_of n ns) (length ns) both.0) (ap (λ (x : ℕ). get_or m.places x 0) h ∙ eqb-true (get_or m.places (index_of n ns) 0) absent both.1)
    where
      by : Settled ns k m → index_of n ns < length ns → get_or m.places k 0 ≡ absent → ⊥
      by (inl l) a b = omega arith
      by (inr f) a b = f b

  pub step_keeps : (n p : ℕ) (m : Met) → Settled ns k m → get_or (step ns n p m).places k 0 ≡ get_or m.places k 0
  step_keeps n p m s = on (wanted ns n m) refl
    where
      on : (b : Bool) → wanted ns n m ≡ b → get_or (pick {A = Met} b (record { places = set m.places (index_of n ns) p; waiting = m.waiting - 1; records = suc m.records }) (record { places = m.places; waiting = m.waiting; records = suc m.records })).places k 0 ≡ get_or m.places k 0
      on true e = get_or-set_other m.places (index_of n ns) k p 0 (not_here n m s e)
      on false e = refl

  step_settled : (n p : ℕ) (m : Met) → Settled ns k m → Settled ns k (step ns n p m)
  step_settled n p m (inl l) = inl l
  step_settled n p m (inr f) = inr (λ z. f (sym (step_keeps n p m (inr f)) ∙ z))

  pub walk_keeps : (p : ℕ) (x : Row) (m : Met) → Settled ns k m → get_or (walk ns p x m).places k 0 ≡ get_or m.places k 0
  unfolding walk
  walk_keeps p end m s = refl
  walk_keeps p (loose b) m s = refl
  walk_keeps p (field t f i r) m s = on (eqb m.waiting 0) (walk_keeps (p + (3 + length f + length (bytes i))) r (step ns (number_of (take 4 f)) p m) (step_settled (number_of (take 4 f)) p m s) ∙ step_keeps (number_of (take 4 f)) p m s)
    where
      on : (b : Bool) → get_or (walk ns (p + (3 + length f + length (bytes i))) r (step ns (number_of (take 4 f)) p m)).places k 0 ≡ get_or m.places k 0 →
          get_or (pick {A = Met} b m (walk ns (p + (3 + length f + length (bytes i))) r (step ns (number_of (take 4 f)) p m))).places k 0 ≡ get_or m.places k 0
      on true e = refl
      on false e = e

  -- places behind the asked ones are absent
  pub behind_absent : (t : Bytes) → length ns ≤ k → k < 256 → get_or (walk ns 0 (read t) (none_met ns)).places k 0 ≡ absent
  behind_absent t l h = walk_keeps 0 (read t) (none_met ns) (inl l) ∙ get_or-replicate 256 k absent 0 h
