-- How far the outermost field that is open reaches, by the frames: what is written of it is so short that heads are found again from four bytes.
-- Main statements: `outer_low`, `outer_out`, `span_in`. Assumes nothing.
use mathlib.Core.Path.{◌≡◌, refl, ap, ◌∙◌}
use Prim.Native.Nat.{ℕ, zero, suc, ◌+◌, ◌-◌, ◌*◌, ◌≤◌, ◌<◌}
use native.Mathlib.Omega.{arith}
use Rattle.loops.specs.Until.{until}

-- where it ends: rests are the bytes behind each field in its body, and the innermost ends at e
abbrev pub outer : (ℕ → ℕ) → ℕ → ℕ → ℕ
outer rests zero e = e
outer rests (suc zero) e = e
outer rests (suc (suc h)) e = outer rests (suc h) (e + rests (suc h))

pub outer_low : (rests : ℕ → ℕ) (h e : ℕ) → e ≤ outer rests h e
outer_low rests zero e = omega arith
outer_low rests (suc zero) e = omega arith
outer_low rests (suc (suc h)) e = omega (arith, outer_low rests (suc h) (e + rests (suc h)))

outer_same : (rests new : ℕ → ℕ) (h e : ℕ) → ((i : ℕ) → i < h → new i ≡ rests i) → outer new h e ≡ outer rests h e
outer_same rests new zero e x = refl
outer_same rests new (suc zero) e x = refl
outer_same rests new (suc (suc h)) e x =
    ap (λ (y : ℕ). outer new (suc h) (e + y)) (x (suc h) (omega arith)) ∙ outer_same rests new (suc h) (e + rests (suc h)) (λ i y. x i (omega arith))

-- a field is left in the body of another
pub outer_out : (rests : ℕ → ℕ) (h e n : ℕ) → (h ≡ 0 → ⊥) → (h - 1 ≡ 0 → ⊥) → outer rests (h - 1) (until (h - 1) e (rests (h - 1)) n) ≡ outer rests h e
outer_out rests zero e n z x = absurd (z refl)
outer_out rests (suc zero) e n z x = absurd (x refl)
outer_out rests (suc (suc h)) e n z x =
    let m : suc (suc h) - 1 ≡ suc h = omega arith in
    ap (λ (j : ℕ). outer rests j (until j e (rests j) n)) m

-- a field is entered: k bytes are written behind its head, and base is the new base
pub span_in : (rests new : ℕ → ℕ) (h at e y st base base' n k n' : ℕ) → ((h ≡ 0 → ⊥) → n + 3 * outer rests h e ≤ base + 196614 + 3 * at) → ((i : ℕ) → i < h → new i ≡ rests i) → ((h ≡ 0 → ⊥) → at + y + new h ≡ e)
    → ((h ≡ 0 → ⊥) → base' ≡ base) → (h ≡ 0 → base' ≡ n) → 3 ≤ st → y ≤ 65538 → k ≤ 4 → n' ≡ n + 3 + k → n' + 3 * outer new (suc h) (at + y) ≤ base' + 196614 + 3 * (at + st)
span_in rests new zero at e y st base base' n k n' p x r b c l u v q =
    let z : base' ≡ n = c refl in
    omega arith
span_in rests new (suc h) at e y st base base' n k n' p x r b c l u v q =
    let no : suc h ≡ 0 → ⊥ = λ z. omega arith in
    let z : base' ≡ base = b no in
    let s = p no in
    let o : outer new (suc h) (at + y + new (suc h)) ≡ outer rests (suc h) e = ap (outer new (suc h)) (r no) ∙ outer_same rests new (suc h) e x in
    omega (arith, s, o)
