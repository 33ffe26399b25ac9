-- Each asked number has the place of the first record with it, or none. Main statement: `place_is_first`. Assumes nothing.
use mathlib.Core.Path.{◌≡◌, refl, sym, ap, ◌∙◌}
use mathlib.Core.Bool.{Bool, true, false, ◌&&◌}
use mathlib.Core.Logic.{inr}
use Prim.Native.Nat.{ℕ, zero, suc, ◌+◌, ◌-◌, ◌≤◌, ◌<◌}
use native.Mathlib.Omega.{arith}
use mathlib.Core.List.{List, [], ◌∷◌}
use lib.Dec.{eqb, ltb}
use lib.ListN.{length, take, get_or, set, replicate, length-set, length-replicate, get_or-replicate}
use lib.Seq.{get_or-set_same, get_or-set_other}
use borrow.Author.Tests.{eqb-true, eqb-false, ltb-true, lt-ltb, eq-eqb, ne_eqb}
use Rattle.std.proofs.lemmas.Bool.{and_parts}
use Rattle.field.specs.Bytes.{Bytes, pick}
use Rattle.field.specs.Number.{number_of}
use Rattle.field.specs.Row.{Row, end, loose, field, bytes, read}
use Rattle.field.proofs.RowLaws.{length_bytes}
use Rattle.page.proofs.TightRows.{length_read}
use Rattle.find.specs.Find.{Met, rising, index_of, wanted, step, walk, none_met, absent}
use Rattle.find.specs.Words.{place_of}
use Rattle.find.proofs.SearchLaws.{rises, index_present}
use Rattle.find.proofs.Kept.{walk_keeps}

-- how many of the first j places are absent
pub unmet : ℕ → List ℕ → ℕ
unmet zero ps = 0
unmet (suc j) [] = 0
unmet (suc j) (q ∷ ps) = pick (eqb q absent) (suc (unmet j ps)) (unmet j ps)

unmet_set : (j : ℕ) (ps : List ℕ) (i p : ℕ) → i < j → i < length ps → get_or ps i 0 ≡ absent → (p ≡ absent → ⊥) → suc (unmet j (set ps i p)) ≡ unmet j ps
unfolding unmet
unmet_set zero ps i p h l e n = absurd (omega arith)
unmet_set (suc j) [] i p h l e n = absurd (omega arith)
unmet_set (suc j) (q ∷ ps) zero p h l e n = rw (ne_eqb p absent n, eq-eqb q absent e)
unmet_set (suc j) (q ∷ ps) (suc i) p h l e n = on (eqb q absent) (unmet_set j ps i p (omega arith) (omega arith) e n)
  where
    on : (b : Bool) → suc (unmet j (set ps i p)) ≡ unmet j ps → suc (pick b (suc (unmet j (set ps i p))) (unmet j (set ps i p))) ≡ pick b (suc (unmet j ps)) (unmet j ps)
    on true z = ap suc z
    on false z = z

pub unmet_some : (j : ℕ) (ps : List ℕ) (k : ℕ) → k < j → k < length ps → get_or ps k 0 ≡ absent → 1 ≤ unmet j ps
unfolding unmet
unmet_some zero ps k h l e = absurd (omega arith)
unmet_some (suc j) [] k h l e = absurd (omega arith)
unmet_some (suc j) (q ∷ ps) zero h l e = rw (eq-eqb q absent e) (omega arith)
unmet_some (suc j) (q ∷ ps) (suc k) h l e = on (eqb q absent) (unmet_some j ps k (omega arith) (omega arith) e)
  where
    on : (b : Bool) → 1 ≤ unmet j ps → 1 ≤ pick b (suc (unmet j ps)) (unmet j ps)
    on true z = omega arith
    on false z = z

-- one of the first j places that is absent
abbrev pub Unmet : ℕ → List ℕ → Type 0
Unmet j ps = (k : ℕ) × (k < j) × (get_or ps k 0 ≡ absent)

pub unmet_at : (j : ℕ) (ps : List ℕ) → (unmet j ps ≡ 0 → ⊥) → Unmet j ps
unfolding unmet
unmet_at zero ps h = absurd (h refl)
unmet_at (suc j) [] h = absurd (h refl)
unmet_at (suc j) (q ∷ ps) h = on (eqb q absent) refl h (unmet_at j ps)
  where
    on : (b : Bool) → eqb q absent ≡ b → (pick b (suc (unmet j ps)) (unmet j ps) ≡ 0 → ⊥) → ((unmet j ps ≡ 0 → ⊥) → Unmet j ps) → Unmet (suc j) (q ∷ ps)
    on true e h f = (0, omega arith, eqb-true q absent e)
    on false e h f = let z = f h in (suc z.0, omega (arith, z.1), z.2)

pub unmet_all : (j n : ℕ) → j ≤ n → unmet j (replicate n absent) ≡ j
unfolding unmet
unmet_all zero n h = refl
unmet_all (suc j) zero h = absurd (omega arith)
unmet_all (suc j) (suc n) h = ap suc (unmet_all j n (omega arith))

-- what an index below the count finds
pub index_hits : (n : ℕ) (ns : List ℕ) → index_of n ns < length ns → get_or ns (index_of n ns) 0 ≡ n
unfolding index_of
index_hits n [] h = absurd (omega arith)
index_hits n (m ∷ ns) h = on (eqb m n) refl h (index_hits n ns)
  where
    on : (b : Bool) → eqb m n ≡ b → pick b 0 (suc (index_of n ns)) < suc (length ns) → (index_of n ns < length ns → get_or ns (index_of n ns) 0 ≡ n) → get_or (m ∷ ns) (pick b 0 (suc (index_of n ns))) 0 ≡ n
    on true e l f = eqb-true m n e
    on false e l f = f (omega arith)

abbrev pub Waits : List ℕ → Met → Type 0
Waits ns m = (m.waiting ≡ unmet (length ns) m.places) × (length m.places ≡ 256)

module _ (ns : List ℕ) (r : rising ns ≡ true) (h : length ns ≤ 256) where
  abbrev pub stepped : Bool → ℕ → ℕ → Met → Met
  stepped b n p m = pick {A = Met} b (record { places = set m.places (index_of n ns) p; waiting = m.waiting - 1; records = suc m.records }) (record { places = m.places; waiting = m.waiting; records = suc m.records })

  pub both : (n : ℕ) (m : Met) → wanted ns n m ≡ true → (index_of n ns < length ns) × (get_or m.places (index_of n ns) 0 ≡ absent)
  both n m e =
      let z = and_parts (ltb (index_of n ns) (length ns)) (eqb (get_or m.places (index_of n ns) 0) absent) e in
      (ltb-true (index_of n ns) (length ns) z.0, eqb-true (get_or m.places (index_of n ns) 0) absent z.1)

  pub step_waits : (n p : ℕ) (m : Met) → Waits ns m → (p ≡ absent → ⊥) → Waits ns (step ns n p m)
  step_waits n p m w q = on (wanted ns n m) refl
    where
      on : (b : Bool) → wanted ns n m ≡ b → Waits ns (stepped b n p m)
      on true e =
          let z = both n m e in
          let u : suc (unmet (length ns) (set m.places (index_of n ns) p)) ≡ unmet (length ns) m.places = unmet_set (length ns) m.places (index_of n ns) p z.0 (omega (arith, z.0, w.1)) z.1 q in
          (omega (arith, u, w.0), length-set m.places (index_of n ns) p ∙ w.1)
      on false e = w

  module _ (k : ℕ) (l : k < length ns) where
    pub step_here : (n p : ℕ) (m : Met) → Waits ns m → n ≡ get_or ns k 0 → get_or m.places k 0 ≡ absent → get_or (step ns n p m).places k 0 ≡ p
    step_here n p m w e a =
        let q : index_of n ns ≡ k = index_present ns n k l (sym e) (λ j i z. omega (arith, rises ns r j k i l)) in
        let u : ltb (index_of n ns) (length ns) ≡ true = lt-ltb (index_of n ns) (length ns) (omega arith) in
        let v : eqb (get_or m.places (index_of n ns) 0) absent ≡ true = eq-eqb (get_or m.places (index_of n ns) 0) absent (ap (λ (x : ℕ). get_or m.places x 0) q ∙ a) in
        let t : wanted ns n m ≡ true = ap (λ (b : Bool). b && eqb (get_or m.places (index_of n ns) 0) absent) u ∙ v in
        ap (λ (b : Bool). get_or (stepped b n p m).places k 0) t ∙ ap (λ (x : ℕ). get_or (set m.places x p) k 0) q ∙ get_or-set_same m.places k p 0 (omega (arith, w.1))

    pub step_away : (n p : ℕ) (m : Met) → (n ≡ get_or ns k 0 → ⊥) → get_or (step ns n p m).places k 0 ≡ get_or m.places k 0
    step_away n p m d = on (wanted ns n m) refl
      where
        on : (b : Bool) → wanted ns n m ≡ b → get_or (stepped b n p m).places k 0 ≡ get_or m.places k 0
        on true e = get_or-set_other m.places (index_of n ns) k p 0 (λ z. d (sym (index_hits n ns (both n m e).0) ∙ ap (λ (x : ℕ). get_or ns x 0) (sym z)))
        on false e = refl

    first_of : (p : ℕ) (x : Row) (m : Met) → Waits ns m → p + length (bytes x) ≤ absent → get_or m.places k 0 ≡ absent → get_or (walk ns p x m).places k 0 ≡ place_of (get_or ns k 0) p x
    unfolding walk place_of
    first_of p end m w b a = a
    first_of p (loose c) m w b a = a
    first_of p (field t f i x) m w b a =
        let some : m.waiting ≡ 0 → ⊥ = λ z. omega (arith, unmet_some (length ns) m.places k l (omega (arith, w.1)) a, w.0) in
        let q : p ≡ absent → ⊥ = λ z. omega (arith, length_bytes t f i x) in
        ap (λ (y : Bool). get_or (pick {A = Met} y m (walk ns (p + (3 + length f + length (bytes i))) x (step ns (number_of (take 4 f)) p m))).places k 0) (ne_eqb m.waiting 0 some)
        ∙ on (eqb (number_of (take 4 f)) (get_or ns k 0)) refl q (first_of (p + (3 + length f + length (bytes i))) x (step ns (number_of (take 4 f)) p m) (step_waits (number_of (take 4 f)) p m w q) (omega (arith, length_bytes t f i x)))
      where
        on : (y : Bool) → eqb (number_of (take 4 f)) (get_or ns k 0) ≡ y → (p ≡ absent → ⊥) →
            (get_or (step ns (number_of (take 4 f)) p m).places k 0 ≡ absent → get_or (walk ns (p + (3 + length f + length (bytes i))) x (step ns (number_of (take 4 f)) p m)).places k 0 ≡ place_of (get_or ns k 0) (p + (3 + length f + length (bytes i))) x) →
            get_or (walk ns (p + (3 + length f + length (bytes i))) x (step ns (number_of (take 4 f)) p m)).places k 0 ≡ pick y p (place_of (get_or ns k 0) (p + (3 + length f + length (bytes i))) x)
        on true e q g =
            let s : get_or (step ns (number_of (take 4 f)) p m).places k 0 ≡ p = step_here (number_of (take 4 f)) p m w (eqb-true (number_of (take 4 f)) (get_or ns k 0) e) a in
            walk_keeps ns k (p + (3 + length f + length (bytes i))) x (step ns (number_of (take 4 f)) p m) (inr (λ z. q (sym s ∙ z))) ∙ s
        on false e q g = g (step_away (number_of (take 4 f)) p m (eqb-false (number_of (take 4 f)) (get_or ns k 0) e) ∙ a)

    -- every asked number's place is that of the first record with it, or absent
    pub place_is_first : (t : Bytes) → length t ≤ absent → get_or (walk ns 0 (read t) (none_met ns)).places k 0 ≡ place_of (get_or ns k 0) 0 (read t)
    place_is_first t s = first_of 0 (read t) (none_met ns) (sym (unmet_all (length ns) 256 h), length-replicate 256 absent) (omega (arith, length_read t)) (get_or-replicate 256 k absent 0 (omega arith))
