-- The count of records that is reported: the position of the last one found, all records if one is absent, zero if none was named. Main statement:
-- `records_are`. Assumes nothing.
use mathlib.Core.Path.{◌≡◌, refl, sym, ap, ◌∙◌}
use mathlib.Core.Bool.{Bool, true, false}
use mathlib.Core.Logic.{inr}
use Prim.Native.Nat.{ℕ, ◌+◌, ◌≤◌, ◌<◌}
use native.Mathlib.Omega.{arith}
use mathlib.Core.List.{List}
use lib.Dec.{eqb}
use lib.ListN.{length, take, get_or, length-replicate, get_or-replicate}
use borrow.Author.Tests.{eqb-true, eqb-false, eq-eqb, ne_eqb}
use Rattle.field.specs.Bytes.{Bytes, pick}
use Rattle.field.specs.Number.{number_of}
use Rattle.field.specs.Row.{Row, end, loose, field, bytes, read}
use Rattle.field.proofs.RowLaws.{length_bytes}
use Rattle.page.proofs.TightRows.{length_read}
use Rattle.find.specs.Find.{Met, rising, index_of, wanted, step, walk, none_met, absent}
use Rattle.find.specs.Words.{position_of, read_up_to}
use Rattle.find.proofs.Counted.{step_counts}
use Rattle.find.proofs.Kept.{step_keeps}
use Rattle.find.proofs.Firsts.{unmet_some, unmet_at, unmet_all, index_hits, Waits, stepped, both, step_waits, step_here, step_away}
use Rattle.find.proofs.Positions.{position_here, position_further, reads_each, reads_below}

-- ---- the walk's count

-- a record's number, where the next one begins, what was met behind it, and the walk from there
abbrev named : Bytes → ℕ
named f = number_of (take 4 f)

abbrev next : ℕ → Bytes → Row → ℕ
next p f i = p + (3 + length f + length (bytes i))

abbrev read_one : List ℕ → ℕ → Bytes → Met → Met
read_one ns p f m = step ns (named f) p m

abbrev behind : List ℕ → ℕ → Bytes → Row → Row → Met → Met
behind ns p f i x m = walk ns (next p f i) x (read_one ns p f m)

walk_stops : (ns : List ℕ) (p : ℕ) (x : Row) (m : Met) → m.waiting ≡ 0 → walk ns p x m ≡ m
unfolding walk
walk_stops ns p end m e = refl
walk_stops ns p (loose c) m e = refl
walk_stops ns p (field t f i x) m e = ap (λ (y : Bool). pick {A = Met} y m (behind ns p f i x m)) (eq-eqb m.waiting 0 e)

walk_goes_on : (ns : List ℕ) (p t : ℕ) (f : Bytes) (i x : Row) (m : Met) → (m.waiting ≡ 0 → ⊥) → walk ns p (field t f i x) m ≡ behind ns p f i x m
unfolding walk
walk_goes_on ns p t f i x m e = ap (λ (y : Bool). pick {A = Met} y m (behind ns p f i x m)) (ne_eqb m.waiting 0 e)

records_grow : (ns : List ℕ) (p : ℕ) (x : Row) (m : Met) → m.records ≤ (walk ns p x m).records
unfolding walk
records_grow ns p end m = omega arith
records_grow ns p (loose c) m = omega arith
records_grow ns p (field t f i x) m = on (eqb m.waiting 0) (records_grow ns (next p f i) x (read_one ns p f m))
  where
    on : (b : Bool) → (read_one ns p f m).records ≤ (behind ns p f i x m).records →
        m.records ≤ (pick {A = Met} b m (behind ns p f i x m)).records
    on true l = omega arith
    on false l = omega (arith, l, step_counts ns (named f) p m)

module _ (ns : List ℕ) (r : rising ns ≡ true) (h : length ns ≤ 256) where
  -- no less than to the record of any that waits
  reads_to_each : (k : ℕ) (l : k < length ns) (p : ℕ) (x : Row) (m : Met) → Waits ns m → p + length (bytes x) ≤ absent → get_or m.places k 0 ≡ absent → m.records + position_of (get_or ns k 0) x ≤ (walk ns p x m).records
  unfolding walk position_of
  reads_to_each k l p end m w b a = omega arith
  reads_to_each k l p (loose c) m w b a = omega arith
  reads_to_each k l p (field t f i x) m w b a =
      let some : m.waiting ≡ 0 → ⊥ = λ z. omega (arith, unmet_some (length ns) m.places k l (omega (arith, w.1)) a, w.0) in
      let q : p ≡ absent → ⊥ = λ z. omega (arith, length_bytes t f i x) in
      let e : (walk ns p (field t f i x) m).records ≡ (behind ns p f i x m).records = ap (λ (y : Met). y.records) (walk_goes_on ns p t f i x m some) in
      let g = reads_to_each k l (next p f i) x (read_one ns p f m) (step_waits ns r h (named f) p m w q) (omega (arith, length_bytes t f i x)) in
      omega (arith, e, on (eqb (named f) (get_or ns k 0)) refl g)
    where
      on : (y : Bool) → eqb (named f) (get_or ns k 0) ≡ y →
          (get_or (read_one ns p f m).places k 0 ≡ absent → (read_one ns p f m).records + position_of (get_or ns k 0) x ≤ (behind ns p f i x m).records) →
          m.records + position_of (get_or ns k 0) (field t f i x) ≤ (behind ns p f i x m).records
      on true e g =
          omega (arith, position_here (get_or ns k 0) t f i x (eqb-true (named f) (get_or ns k 0) e), records_grow ns (next p f i) x (read_one ns p f m), step_counts ns (named f) p m)
      on false e g =
          let d : named f ≡ get_or ns k 0 → ⊥ = eqb-false (named f) (get_or ns k 0) e in
          omega (arith, position_further (get_or ns k 0) t f i x d, g (step_away ns r h k l (named f) p m d ∙ a), step_counts ns (named f) p m)

  -- one waits, and the walk reads to its record and no further
  abbrev Last : Row → Met → ℕ → Type 0
  Last x m c = (k : ℕ) × (k < length ns) × (get_or m.places k 0 ≡ absent) × (c ≡ m.records + position_of (get_or ns k 0) x)

  absent_before : (n p : ℕ) (m : Met) (k : ℕ) → get_or (step ns n p m).places k 0 ≡ absent → get_or m.places k 0 ≡ absent
  absent_before n p m k e = on (eqb (get_or m.places k 0) absent) refl
    where
      on : (y : Bool) → eqb (get_or m.places k 0) absent ≡ y → get_or m.places k 0 ≡ absent
      on true z = eqb-true (get_or m.places k 0) absent z
      on false z = sym (step_keeps ns k n p m (inr (eqb-false (get_or m.places k 0) absent z))) ∙ e

  -- the step that leaves none waiting was at the record of one that waited
  last_met : (n p : ℕ) (m : Met) → (m.waiting ≡ 0 → ⊥) → (step ns n p m).waiting ≡ 0 → wanted ns n m ≡ true
  last_met n p m w e = on (wanted ns n m) refl e
    where
      on : (y : Bool) → wanted ns n m ≡ y → (stepped ns r h y n p m).waiting ≡ 0 → wanted ns n m ≡ true
      on true z e = z
      on false z e = absurd (w e)

  reads_to_last : (p : ℕ) (x : Row) (m : Met) → Waits ns m → p + length (bytes x) ≤ absent → (m.waiting ≡ 0 → ⊥) → Last x m (walk ns p x m).records
  unfolding walk position_of
  reads_to_last p end m w b s =
      let z = unmet_at (length ns) m.places (λ e. s (w.0 ∙ e)) in
      (z.0, z.1, z.2, omega arith)
  reads_to_last p (loose c) m w b s =
      let z = unmet_at (length ns) m.places (λ e. s (w.0 ∙ e)) in
      (z.0, z.1, z.2, omega arith)
  reads_to_last p (field t f i x) m w b s =
      let q : p ≡ absent → ⊥ = λ z. omega (arith, length_bytes t f i x) in
      let e : (walk ns p (field t f i x) m).records ≡ (behind ns p f i x m).records = ap (λ (y : Met). y.records) (walk_goes_on ns p t f i x m s) in
      let g = reads_to_last (next p f i) x (read_one ns p f m) (step_waits ns r h (named f) p m w q) (omega (arith, length_bytes t f i x)) in
      on (walk ns p (field t f i x) m).records e (eqb (read_one ns p f m).waiting 0) refl q g
    where
      on : (c : ℕ) → c ≡ (behind ns p f i x m).records → (y : Bool) → eqb (read_one ns p f m).waiting 0 ≡ y → (p ≡ absent → ⊥) →
          (((read_one ns p f m).waiting ≡ 0 → ⊥) → Last x (read_one ns p f m) (behind ns p f i x m).records) → Last (field t f i x) m c
      on c u true e q g =
          let o : (read_one ns p f m).waiting ≡ 0 = eqb-true (read_one ns p f m).waiting 0 e in
          let z = both ns r h (named f) m (last_met (named f) p m s o) in
          let v : (behind ns p f i x m).records ≡ (read_one ns p f m).records = ap (λ (y : Met). y.records) (walk_stops ns (next p f i) x (read_one ns p f m) o) in
          let y = position_here (get_or ns (index_of (named f) ns) 0) t f i x (sym (index_hits (named f) ns z.0)) in
          (index_of (named f) ns, z.0, z.1, omega (arith, u, v, y, step_counts ns (named f) p m))
      on c u false e q g =
          let z = g (eqb-false (read_one ns p f m).waiting 0 e) in
          let a : get_or m.places z.0 0 ≡ absent = absent_before (named f) p m z.0 z.2 in
          let d : named f ≡ get_or ns z.0 0 → ⊥ = λ y. q (sym (step_here ns r h z.0 z.1 (named f) p m w y a) ∙ z.2) in
          (z.0, z.1, a, omega (arith, u, z.3, position_further (get_or ns z.0 0) t f i x d, step_counts ns (named f) p m))

  -- ---- the walk from its start

  pub records_are : (t : Bytes) → length t ≤ absent → (walk ns 0 (read t) (none_met ns)).records ≡ read_up_to ns (read t)
  records_are t s =
      let w : Waits ns (none_met ns) = (sym (unmet_all (length ns) 256 h), length-replicate 256 absent) in
      let b : 0 + length (bytes (read t)) ≤ absent = omega (arith, length_read t) in
      let low : read_up_to ns (read t) ≤ (walk ns 0 (read t) (none_met ns)).records = reads_below ns (read t) (walk ns 0 (read t) (none_met ns)).records (λ k l. omega (arith, reads_to_each k l 0 (read t) (none_met ns) w b (get_or-replicate 256 k absent 0 (omega arith)))) in
      let high : (walk ns 0 (read t) (none_met ns)).records ≤ read_up_to ns (read t) = on (eqb (length ns) 0) refl w b in
      omega arith
    where
      on : (y : Bool) → eqb (length ns) 0 ≡ y → Waits ns (none_met ns) → 0 + length (bytes (read t)) ≤ absent → (walk ns 0 (read t) (none_met ns)).records ≤ read_up_to ns (read t)
      on true e w b = omega (arith, ap (λ (y : Met). y.records) (walk_stops ns 0 (read t) (none_met ns) (eqb-true (length ns) 0 e)))
      on false e w b =
          let z = reads_to_last 0 (read t) (none_met ns) w b (eqb-false (length ns) 0 e) in
          omega (arith, z.3, reads_each ns (read t) z.0 z.1)
