-- What is answered is what the grammar says, and a text has one reading. Assumes nothing.
use Prim.Native.Nat.{ℕ}
use mathlib.Core.Path.{◌≡◌, refl, sym, ◌∙◌, ap, subst}
use mathlib.Core.Bool.{Bool, true, false, not}
use native.Mathlib.Omega.{arith}
use mathlib.Core.Logic.{◌↔◌}
use lib.Dec.{T}
use Rattle.field.specs.Bytes.{Bytes}
use Rattle.grammar.specs.Signs.{choose}
use Rattle.grammar.specs.Syntax.{Tag, matched}
use Rattle.grammar.specs.Grammar.{ReadsAs, Reads}
use Rattle.grammar.specs.Reader.{start, Outcome, read, no_reading, outcome, taken, refused_14, refused_15, judged, answer}
use Rattle.grammar.proofs.Tests.{chose, passed}
use Rattle.grammar.proofs.Complete.{complete}
use Rattle.grammar.proofs.Sound.{sound}

-- a text has one reading
pub unique : (s : Bytes) (t u : Tag) → ReadsAs s t → ReadsAs s u → t ≡ u
unique s t u p q =
    let e = complete p in
    let f = complete q in
    cc

judged_taken : (o : Outcome) (t : Tag) → judged o ≡ taken t → (o ≡ read t) × T (matched t)
unfolding judged choose
judged_taken no_reading t e = let z : ◌≡◌ {A = ℕ} 0 1 = cc in absurd (omega arith)
judged_taken (read u) t e = on (matched u) refl e
  where
    on : (b : Bool) → matched u ≡ b → choose b (taken u) refused_15 ≡ taken t → (read u ≡ read t) × T (matched t)
    on true m e' =
        let f : u ≡ t = cc in
        (ap read f, subst (λ (x : Tag). T (matched x)) f (subst T (sym m) tt))
    on false m e' = let z : ◌≡◌ {A = ℕ} 0 1 = cc in absurd (omega arith)

judged_15 : (o : Outcome) → judged o ≡ refused_15 → (t : Tag) × (o ≡ read t) × T (not (matched t))
unfolding judged choose
judged_15 no_reading e = let z : ◌≡◌ {A = ℕ} 0 1 = cc in absurd (omega arith)
judged_15 (read u) e = on (matched u) refl e
  where
    on : (b : Bool) → matched u ≡ b → choose b (taken u) refused_15 ≡ refused_15 → (t : Tag) × (read u ≡ read t) × T (not (matched t))
    on true m e' = let z : ◌≡◌ {A = ℕ} 0 1 = cc in absurd (omega arith)
    on false m e' = (u, refl, subst (λ (b : Bool). T (not b)) (sym m) tt)

judged_14 : (o : Outcome) (t : Tag) → judged o ≡ refused_14 → o ≡ read t → ⊥
unfolding judged choose
judged_14 no_reading t e f = let z : ◌≡◌ {A = ℕ} 0 1 = cc in absurd (omega arith)
judged_14 (read u) t e f = on (matched u) e
  where
    on : (b : Bool) → choose b (taken u) refused_15 ≡ refused_14 → ⊥
    on true e' = let z : ◌≡◌ {A = ℕ} 0 1 = cc in omega arith
    on false e' = let z : ◌≡◌ {A = ℕ} 0 1 = cc in omega arith

no_outcome : (o : Outcome) → ((t : Tag) → o ≡ read t → ⊥) → judged o ≡ refused_14
unfolding judged
no_outcome no_reading n = refl
no_outcome (read t) n = absurd (n t refl)

-- taken, with this tag: exactly what the grammar reads as it
pub taken_exactly : (s : Bytes) (t : Tag) → (answer s ≡ taken t) ↔ Reads s t
unfolding answer judged
taken_exactly s t = (there, back)
  where
    there : judged (outcome start s) ≡ taken t → Reads s t
    there e = let j = judged_taken (outcome start s) t e in (sound t s j.0, j.1)

    back : Reads s t → judged (outcome start s) ≡ taken t
    back r = ap judged (complete r.0) ∙ chose (matched t) (taken t) refused_15 r.1

-- 14: no reading
pub fourteen_exactly : (s : Bytes) → (answer s ≡ refused_14) ↔ ((t : Tag) → ReadsAs s t → ⊥)
unfolding answer
fourteen_exactly s = (λ e t r. judged_14 (outcome start s) t e (complete r), λ n. no_outcome (outcome start s) (λ t e. n t (sound t s e)))

-- 15: read if closing names were not compared, and only then
pub fifteen_exactly : (s : Bytes) → (answer s ≡ refused_15) ↔ ((t : Tag) × ReadsAs s t × T (not (matched t)))
unfolding answer judged
fifteen_exactly s = (there, back)
  where
    there : judged (outcome start s) ≡ refused_15 → (t : Tag) × ReadsAs s t × T (not (matched t))
    there e = let j = judged_15 (outcome start s) e in (j.0, sound j.0 s j.1, j.2)

    back : (t : Tag) × ReadsAs s t × T (not (matched t)) → judged (outcome start s) ≡ refused_15
    back r = ap judged (complete r.1) ∙ passed (matched r.0) (taken r.0) refused_15 r.2
