-- What is answered is what the grammar says, and a text has one reading. Assumes nothing.
use mathlib.Core.Path.{◌≡◌, refl, sym, ◌∙◌, ap}
use mathlib.Core.Logic.{◌↔◌}
use Rattle.field.specs.Bytes.{Bytes}
use Rattle.sums.specs.Tree.{Tree}
use Rattle.sums.specs.Grammar.{ReadsAs}
use Rattle.sums.specs.Value.{value}
use Rattle.sums.specs.Machine.{start, Outcome, read, no_reading, outcome, found, sum_of}
use Rattle.sums.specs.Value.{Worked}
use Rattle.std.specs.Prelude.{None}
use Rattle.sums.proofs.Complete.{complete}
use Rattle.sums.proofs.Sound.{sound}

-- a text has one reading
pub unique : (s : Bytes) (t u : Tree) → ReadsAs s t → ReadsAs s u → t ≡ u
unique s t u p q =
    let e = complete p in
    let f = complete q in
    cc

-- the machine reads exactly the grammar's language
pub read_exactly : (s : Bytes) (t : Tree) → (outcome start s ≡ read t) ↔ ReadsAs s t
read_exactly s t = (sound s t, complete)

-- a sum comes to the value of its tree
pub sum_answered : (s : Bytes) (t : Tree) → ReadsAs s t → sum_of s ≡ value t
unfolding sum_of found
sum_answered s t p = ap found (complete p)

-- a text comes to a number exactly where the grammar reads it as a tree with that value
pub sum_exactly : (s : Bytes) (w : Worked) → (w ≡ None → ⊥) → (sum_of s ≡ w) ↔ ((t : Tree) × ReadsAs s t × (value t ≡ w))
unfolding sum_of found
sum_exactly s w n = (λ e. on (outcome start s) refl e, λ p. ap found (complete p.1) ∙ p.2)
  where
    on : (o : Outcome) → outcome start s ≡ o → found (outcome start s) ≡ w → (t : Tree) × ReadsAs s t × (value t ≡ w)
    on no_reading q e = absurd (n (sym e ∙ ap found q))
    on (read t) q e = (t, sound s t q, sym (ap found q) ∙ e)

-- and it stays exactly where every reading, if there is one, has no number for its value
pub stays_exactly : (s : Bytes) → (sum_of s ≡ None) ↔ ((t : Tree) → ReadsAs s t → value t ≡ None)
unfolding sum_of found
stays_exactly s = (λ e t p. ap found (sym (complete p)) ∙ e, λ n. on (outcome start s) refl n)
  where
    on : (o : Outcome) → outcome start s ≡ o → ((t : Tree) → ReadsAs s t → value t ≡ None) → found (outcome start s) ≡ None
    on no_reading q n = ap found q
    on (read t) q n = ap found q ∙ n t (sound s t q)
