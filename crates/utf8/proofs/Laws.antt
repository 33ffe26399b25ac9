-- What callers need to know of UTF-8: it goes by whole characters, and ASCII is part of it. Main statements: utf8_append, ascii_utf8.
-- Assumes nothing.
use mathlib.Core.Path.{◌≡◌, refl, ◌∙◌}
use Prim.Native.Nat.{ℕ, ◌<◌}
use native.Mathlib.Omega.{arith}
use mathlib.Core.Bool.{Bool, true, false, and-eq-true_iff, false≢true}
use mathlib.Core.List.{List, [], ◌∷◌, ◌++◌}
use mathlib.Core.Option.{Option, none, some}
use borrow.Author.Tests.{ltb-true}
use lib.Dec.{ltb}
use Rattle.utf8.specs.Utf8.{Range, within, forms, begun, utf8_behind, utf8, all_ascii}
use Rattle.utf8.proofs.Forms.{utf8_begun}

-- what holds behind every form holds behind the one that a byte begins
begun_carries :
    (a c : List ℕ) (u : Bool) → ((rs : List Range) → utf8_behind rs a ≡ true → utf8_behind rs c ≡ u) → (o : Option (List Range)) →
    elim o as (λ _. Bool) [ none ↦ false | some rs ↦ utf8_behind rs a ] ≡ true →
    elim o as (λ _. Bool) [ none ↦ false | some rs ↦ utf8_behind rs c ] ≡ u
begun_carries a c u h none e = absurd (false≢true e)
begun_carries a c u h (some rs) e = h rs e

behind_append : (rs : List Range) (a b : List ℕ) → utf8_behind rs a ≡ true → utf8_behind rs (a ++ b) ≡ utf8 b
unfolding utf8 utf8_behind
behind_append [] [] b e = refl
behind_append [] (x ∷ a) b e = begun_carries a (a ++ b) (utf8 b) (λ rs. behind_append rs a b) (begun x forms) e
behind_append (r ∷ rs) [] b e = absurd (false≢true e)
behind_append (r ∷ rs) (x ∷ a) b e =
    let p = (and-eq-true_iff (within r x) (utf8_behind rs a)).0 e in
    rw p.0 (behind_append rs a b p.1)

-- behind whole characters the text is UTF-8 if what follows is
pub utf8_append : (a b : List ℕ) → utf8 a ≡ true → utf8 (a ++ b) ≡ utf8 b
unfolding utf8
utf8_append a b e = behind_append [] a b e

pub utf8_cons : (b : ℕ) (s : List ℕ) → b < 0x80 → utf8 (b ∷ s) ≡ utf8 s
unfolding utf8 forms
utf8_cons b s h = utf8_begun b 0 0x7F (omega arith) (omega arith) s refl

pub ascii_utf8 : (a : List ℕ) → all_ascii a ≡ true → utf8 a ≡ true
unfolding all_ascii utf8 utf8_behind
ascii_utf8 [] e = refl
ascii_utf8 (b ∷ a) e =
    let p = (and-eq-true_iff (ltb b 0x80) (all_ascii a)).0 e in
    utf8_cons b a (ltb-true b 0x80 p.0) ∙ ascii_utf8 a p.1
