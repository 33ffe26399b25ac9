-- White space at the end of a text, by its last other byte. Main statements: `trimmed_at`, `trimmed_all`. Assumes nothing.
use Prim.Native.Nat.{ℕ, zero, suc, ◌+◌, ◌<◌}
use mathlib.Core.Path.{◌≡◌, refl, sym, ◌∙◌, ap, subst}
use mathlib.Core.Bool.{true, false, not}
use mathlib.Core.List.{[], ◌∷◌}
use native.Mathlib.Omega.{arith}
use native.Mathlib.Numerals.{add-one}
use lib.Dec.{T}
use lib.ListN.{length, take, get_or}
use Rattle.field.specs.Bytes.{Bytes}
use Rattle.grammar.specs.Signs.{space}
use Rattle.grammar.specs.Known.{kept, trimmed_end}
use Rattle.grammar.proofs.Tests.{chose, passed}

-- nothing but white space
pub trimmed_all : (s : Bytes) → ((k : ℕ) → k < length s → space (get_or s k 0) ≡ true) → [] ≡ trimmed_end s
unfolding trimmed_end kept
trimmed_all [] h = refl
trimmed_all (c ∷ s) h =
    let w : [] ≡ trimmed_end s = trimmed_all s (λ k l. h (suc k) (omega arith)) in
    sym (chose (space c) [] (c ∷ []) (subst T (sym (h 0 (omega arith))) tt)) ∙ ap (kept c) w

last_at : (s : Bytes) (i : ℕ) → i < length s → space (get_or s i 0) ≡ false → ((k : ℕ) → i < k → k < length s → space (get_or s k 0) ≡ true) → take (suc i) s ≡ trimmed_end s
unfolding trimmed_end kept
last_at [] i l e h = absurd (omega arith)
last_at (c ∷ s) zero l e h =
    let w : [] ≡ trimmed_end s = trimmed_all s (λ k m. h (suc k) (omega arith) (omega arith)) in
    sym (passed (space c) [] (c ∷ []) (subst (λ b. T (not b)) (sym e) tt)) ∙ ap (kept c) w
last_at (c ∷ []) (suc i) l e h = absurd (omega arith)
last_at (c ∷ d ∷ s) (suc i) l e h = ap (kept c) (last_at (d ∷ s) i (omega arith) e (λ k a b. h (suc k) (omega arith) (omega arith)))

-- nothing but white space behind i
pub trimmed_at : (s : Bytes) (i : ℕ) → i < length s → space (get_or s i 0) ≡ false → ((k : ℕ) → i < k → k < length s → space (get_or s k 0) ≡ true) → take (i + 1) s ≡ trimmed_end s
trimmed_at s i l e h = rw (add-one i) (last_at s i l e h)
