-- Heads put in before bytes that stand: the moves and the writes leave what one write of all in order does.
-- Main statements: `import_in`, `both_in`. Assumes nothing.
use mathlib.Core.Path.{◌≡◌, sym, ap, ap₂, ◌∙◌}
use Prim.Native.Nat.{ℕ, ◌+◌, ◌-◌, ◌≤◌}
use native.Mathlib.Omega.{arith}
use mathlib.Core.List.{◌++◌}
use lib.ListN.{length, take, drop, length-append}
use Rattle.field.specs.Bytes.{Bytes}
use Rattle.field.specs.Put.{put}
use Rattle.field.proofs.PutLaws.{length_put, put_put, put_back, put_clip}
use Rattle.records.proofs.MoveLaws.{take_put, drop_put, put_over}

-- where a and then b stand
module _ (o a b : Bytes) where
  -- what stands is b behind a
  behind : {x : Bytes} {p : ℕ} → x ≡ put o 0 (a ++ b) → p ≡ length a → x ≡ put (put o 0 a) p b
  behind {x} {p} g k = let z : 0 + length a ≡ p = omega arith in g ∙ sym (put_put o 0 a b) ∙ ap (λ (q : ℕ). put (put o 0 a) q b) z

  -- b moves up
  move_behind : {x : Bytes} {p e : ℕ} (m : ℕ) → x ≡ put o 0 (a ++ b) → p ≡ length a → e ≡ length a + length b → p ≤ m → put x m (take (e - p) (drop p x)) ≡ put x m b
  move_behind {x} {p} {e} m g k l h =
      let z : e - p ≡ length b = omega arith in
      let fits : length x ≤ m + (length (put o 0 a) - p) = omega (arith, ap length g, length_put o 0 (a ++ b), length_put o 0 a) in
      ap (put x m) (ap₂ (λ (q : ℕ) (y : Bytes). take q (drop p y)) z (behind g k) ∙ drop_put (put o 0 a) p b) ∙ put_clip x m (length (put o 0 a) - p) b fits

  -- a moves up, after what lies behind it has
  move_front : {x y : Bytes} {p : ℕ} (m n : ℕ) (w : Bytes) → x ≡ put o 0 (a ++ b) → p ≡ length a → y ≡ put x m w → p ≤ m → put y (0 + n) (take (p - 0) (drop 0 y)) ≡ put y (0 + n) a
  move_front {x} {y} {p} m n w g k f h =
      let z : p - 0 ≡ length a = omega arith in
      let fits : length y ≤ 0 + n + (length o - 0) = omega (arith, ap length f, length_put x m w, ap length g, length_put o 0 (a ++ b)) in
      let low : length a ≤ p = omega arith in
      let front : take (length a) y ≡ take (length o - 0) a =
      ap (take (length a)) f ∙ take_put x (length a) m w (omega arith) ∙ ap (take (length a)) (behind g k) ∙ take_put (put o 0 a) (length a) p b low ∙ drop_put o 0 a in
      ap (put y (0 + n)) (ap (λ (q : ℕ). take q y) z ∙ front) ∙ put_clip y (0 + n) (length o - 0) a fits

  module _ (i : Bytes) {n : ℕ} (c : n ≡ length i) {x₀ : Bytes} (g : x₀ ≡ put o 0 (a ++ b)) where
    -- i before a, and l between a and b
    pub both_in : (l : Bytes) {p e m : ℕ} {x₁ x₂ x₃ x₄ : Bytes} → p ≡ length a → e ≡ length a + length b → m ≡ n + length l →
        x₁ ≡ put x₀ (p + m) (take (e - p) (drop p x₀)) → x₂ ≡ put x₁ (p + n) l → x₃ ≡ put x₂ (0 + n) (take (p - 0) (drop 0 x₂)) → x₄ ≡ put x₃ 0 i → x₄ ≡ put o 0 (i ++ (a ++ (l ++ b)))
    both_in l {p} {e} {m} {x₁} {x₂} {x₃} {x₄} k d q e₁ e₂ e₃ e₄ =
        let r₁ : p + m ≡ p + n + length l = omega arith in
        let s₂ : x₂ ≡ put x₀ (p + n) (l ++ b) =
        e₂ ∙ ap (λ (x : Bytes). put x (p + n) l) (e₁ ∙ move_behind (p + m) g k d (omega arith) ∙ ap (λ (t : ℕ). put x₀ t b) r₁) ∙ put_back x₀ (p + n) l b in
        let r₃ : p + n ≡ 0 + n + length a = omega arith in
        let s₃ : x₃ ≡ put x₀ (0 + n) (a ++ (l ++ b)) =
        e₃ ∙ move_front (p + n) n (l ++ b) g k s₂ (omega arith) ∙ ap (λ (x : Bytes). put x (0 + n) a) (s₂ ∙ ap (λ (t : ℕ). put x₀ t (l ++ b)) r₃) ∙ put_back x₀ (0 + n) a (l ++ b) in
        let r₄ : 0 + n ≡ 0 + length i = omega arith in
        let size : length (a ++ b) ≤ length (i ++ (a ++ (l ++ b))) = omega (arith, length-append a b, length-append i (a ++ (l ++ b)), length-append a (l ++ b), length-append l b) in
        e₄ ∙ ap (λ (x : Bytes). put x 0 i) (s₃ ∙ ap (λ (t : ℕ). put x₀ t (a ++ (l ++ b))) r₄) ∙ put_back x₀ 0 i (a ++ (l ++ b)) ∙ ap (λ (x : Bytes). put x 0 (i ++ (a ++ (l ++ b)))) g ∙ put_over o 0 (a ++ b) (i ++ (a ++ (l ++ b))) size

    -- i before all
    pub import_in : {e : ℕ} {x₁ x₂ : Bytes} → e ≡ length a + length b → x₁ ≡ put x₀ (0 + n) (take (e - 0) (drop 0 x₀)) → x₂ ≡ put x₁ 0 i → x₂ ≡ put o 0 (i ++ (a ++ b))
    import_in {e} {x₁} {x₂} d e₁ e₂ =
        let z : e - 0 ≡ length (a ++ b) = omega (arith, length-append a b) in
        let fits : length x₀ ≤ 0 + n + (length o - 0) = omega (arith, ap length g, length_put o 0 (a ++ b)) in
        let r : 0 + n ≡ 0 + length i = omega arith in
        let s : x₁ ≡ put x₀ (0 + length i) (a ++ b) =
        e₁ ∙ ap (put x₀ (0 + n)) (ap₂ (λ (q : ℕ) (y : Bytes). take q y) z g ∙ drop_put o 0 (a ++ b)) ∙ put_clip x₀ (0 + n) (length o - 0) (a ++ b) fits ∙ ap (λ (t : ℕ). put x₀ t (a ++ b)) r in
        e₂ ∙ ap (λ (x : Bytes). put x 0 i) s ∙ put_back x₀ 0 i (a ++ b) ∙ ap (λ (x : Bytes). put x 0 (i ++ (a ++ b))) g
        ∙ put_over o 0 (a ++ b) (i ++ (a ++ b)) (omega (arith, length-append i (a ++ b)))
