-- The count of records that is reported is the count of steps taken. Main statement: `count_is_steps`. Assumes nothing.
use mathlib.Core.Path.{◌≡◌, refl, sym, ap, ◌∙◌, subst}
use mathlib.Core.Bool.{Bool, true, false}
use mathlib.Core.Logic.{◌⊎◌, inl, inr}
use Prim.Native.Nat.{ℕ, zero, suc, ◌+◌, ◌-◌, ◌<◌}
use native.Mathlib.Omega.{arith}
use native.Mathlib.Nat.{zero-add}
use mathlib.Core.List.{List}
use lib.Dec.{eqb}
use lib.ListN.{length, take, set}
use borrow.Author.Tests.{eqb-true, eqb-false}
use Rattle.field.specs.Bytes.{Bytes, pick}
use Rattle.field.specs.Number.{number_of}
use Rattle.field.specs.Row.{Row, end, loose, field, bytes, read, Ended}
use Rattle.find.specs.Find.{Met, index_of, wanted, step, walk, none_met}
use Rattle.find.specs.Words.{steps, left, Taken}

-- how many are taken
count : List ℕ → ℕ → Row → Met → ℕ
count ns p end m = 0
count ns p (loose b) m = 0
count ns p (field t f i r) m = pick (eqb m.waiting 0) 0 (suc (count ns (p + (3 + length f + length (bytes i))) r (step ns (number_of (take 4 f)) p m)))

pub step_counts : (ns : List ℕ) (n p : ℕ) (m : Met) → (step ns n p m).records ≡ suc m.records
step_counts ns n p m = on (wanted ns n m)
  where
    on : (b : Bool) → (pick {A = Met} b (record { places = set m.places (index_of n ns) p; waiting = m.waiting - 1; records = suc m.records }) (record { places = m.places; waiting = m.waiting; records = suc m.records })).records ≡ suc m.records
    on true = refl
    on false = refl

none_taken : (ns : List ℕ) (p : ℕ) (x : Row) (m : Met) → walk ns p x m ≡ m → (m.waiting ≡ 0) ⊎ Ended x → Taken ns p x m 0
unfolding steps left
none_taken ns p x m e s = record { steps_are = e; counted = ap (λ (y : Met). y.records) e ∙ omega arith; one_waits = λ j h. absurd (omega arith); stops = s }

one_taken : (ns : List ℕ) (p t : ℕ) (f : Bytes) (i r : Row) (m : Met) (k : ℕ) → (m.waiting ≡ 0 → ⊥) →
    walk ns p (field t f i r) m ≡ walk ns (p + (3 + length f + length (bytes i))) r (step ns (number_of (take 4 f)) p m) →
    Taken ns (p + (3 + length f + length (bytes i))) r (step ns (number_of (take 4 f)) p m) k → Taken ns p (field t f i r) m (suc k)
unfolding steps left
one_taken ns p t f i r m k w e a =
    record {
      steps_are = e ∙ a.steps_are;
      counted = ap (λ (y : Met). y.records) e ∙ a.counted ∙ omega (arith, step_counts ns (number_of (take 4 f)) p m);
      one_waits = waits;
      stops = a.stops;
    }
  where
    waits : (j : ℕ) → j < suc k → (steps j ns p (field t f i r) m).waiting ≡ 0 → ⊥
    waits zero h = w
    waits (suc j) h = a.one_waits j (omega arith)

count_is_steps_from : (ns : List ℕ) (p : ℕ) (x : Row) (m : Met) → Taken ns p x m (count ns p x m)
unfolding walk count
count_is_steps_from ns p end m = none_taken ns p end m refl (inr tt)
count_is_steps_from ns p (loose b) m = none_taken ns p (loose b) m refl (inr tt)
count_is_steps_from ns p (field t f i r) m = on (eqb m.waiting 0) refl (count_is_steps_from ns (p + (3 + length f + length (bytes i))) r (step ns (number_of (take 4 f)) p m))
  where
    on : (b : Bool) → eqb m.waiting 0 ≡ b → Taken ns (p + (3 + length f + length (bytes i))) r (step ns (number_of (take 4 f)) p m) (count ns (p + (3 + length f + length (bytes i))) r (step ns (number_of (take 4 f)) p m)) → Taken ns p (field t f i r) m (pick b 0 (suc (count ns (p + (3 + length f + length (bytes i))) r (step ns (number_of (take 4 f)) p m))))
    on true e a = none_taken ns p (field t f i r) m (ap (λ (b : Bool). pick b m (walk ns (p + (3 + length f + length (bytes i))) r (step ns (number_of (take 4 f)) p m))) e) (inl (eqb-true m.waiting 0 e))
    on false e a = one_taken ns p t f i r m (count ns (p + (3 + length f + length (bytes i))) r (step ns (number_of (take 4 f)) p m)) (eqb-false m.waiting 0 e) (ap (λ (b : Bool). pick b m (walk ns (p + (3 + length f + length (bytes i))) r (step ns (number_of (take 4 f)) p m))) e) a

-- of the walk that the code takes, the reported count is that of its steps
pub count_is_steps : (t : Bytes) (ns : List ℕ) → Taken ns 0 (read t) (none_met ns) (walk ns 0 (read t) (none_met ns)).records
count_is_steps t ns =
    let a : Taken ns 0 (read t) (none_met ns) (count ns 0 (read t) (none_met ns)) = count_is_steps_from ns 0 (read t) (none_met ns) in
    let e : count ns 0 (read t) (none_met ns) ≡ (walk ns 0 (read t) (none_met ns)).records = sym (zero-add (count ns 0 (read t) (none_met ns))) ∙ sym a.counted in
    subst (λ (k : ℕ). Taken ns 0 (read t) (none_met ns) k) e a
