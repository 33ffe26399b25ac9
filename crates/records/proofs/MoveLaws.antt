-- Bytes moved up within a buffer, as far as they fit, and what stands where a write was made. Main statements: `move_none`, `move_one`,
-- `move_block`, `move_fit`, `drop_put`, `put_over`. Assumes nothing.
use mathlib.Core.Path.{◌≡◌, refl, sym, ap, ap₂, ◌∙◌}
use Prim.Native.Nat.{ℕ, zero, suc, min, ◌+◌, ◌-◌, ◌≤◌, ◌<◌}
use native.Mathlib.Nat.{le_of_suc-le-suc, not-suc-le-zero}
use native.Mathlib.Omega.{arith}
use mathlib.Core.List.{[], ◌∷◌, ◌++◌}
use mathlib.Core.Bool.{Bool, true, false}
use lib.Dec.{leb}
use lib.ListN.{length, set, take, drop, get_or, length-drop}
use lib.Seq.{take-nil, drop-nil, drop-cons, drop-drop, take-take, take-add, length-take-le}
use Rattle.field.specs.Bytes.{Bytes}
use Rattle.field.specs.Put.{put}
use Rattle.field.proofs.PutLaws.{length_put, put_nil, put_one, put_back, put_clip}
use borrow.Author.Tests.{leb-true, leb-false}

-- ---- what stands after a write

-- in front of it
pub take_put : (o : Bytes) (k n : ℕ) (w : Bytes) → k ≤ n → take k (put o n w) ≡ take k o
unfolding put
take_put [] k n w h = refl
take_put (x ∷ o) zero n w h = refl
take_put (x ∷ o) (suc k) zero w h = absurd (not-suc-le-zero h)
take_put (x ∷ o) (suc k) (suc n) w h = ap {B = Bytes} (λ r. x ∷ r) (take_put o k n w (le_of_suc-le-suc h))

before_put : (o : Bytes) (j k n : ℕ) (w : Bytes) → j + k ≤ n → take k (drop j (put o n w)) ≡ take k (drop j o)
unfolding put
before_put [] j k n w h = refl
before_put (x ∷ o) zero k n w h = take_put (x ∷ o) k n w (omega arith)
before_put (x ∷ o) (suc j) k zero w h = absurd (omega arith)
before_put (x ∷ o) (suc j) k (suc n) w h = before_put o j k n w (omega arith)

getD_put : (o : Bytes) (n : ℕ) (w : Bytes) (i : ℕ) → i < n → get_or (put o n w) i 0 ≡ get_or o i 0
unfolding put
getD_put [] n w i h = refl
getD_put (x ∷ o) zero w i h = absurd (not-suc-le-zero h)
getD_put (x ∷ o) (suc n) w zero h = refl
getD_put (x ∷ o) (suc n) w (suc i) h = getD_put o n w i (le_of_suc-le-suc h)

-- where it was made, as far as it fits
pub drop_put : (o : Bytes) (n : ℕ) (w : Bytes) → take (length w) (drop n (put o n w)) ≡ take (length o - n) w
unfolding put
drop_put [] n w = let z : 0 - n ≡ 0 = omega arith in ap (take (length w)) (drop-nil n) ∙ take-nil (length w) ∙ sym (ap (λ (k : ℕ). take k w) z)
drop_put (x ∷ o) (suc n) w = let z : length o - n ≡ suc (length o) - suc n = omega arith in drop_put o n w ∙ ap (λ (k : ℕ). take k w) z
drop_put (x ∷ o) zero [] = sym (take-nil (suc (length o) - 0))
drop_put (x ∷ o) zero (b ∷ w) =
    let z : suc (length o - 0) ≡ suc (length o) - 0 = omega arith in ap {B = Bytes} (λ r. b ∷ r) (drop_put o zero w) ∙ ap (λ (k : ℕ). take k (b ∷ w)) z

-- a write over one that is no longer
pub put_over : (o : Bytes) (n : ℕ) (w v : Bytes) → length w ≤ length v → put (put o n w) n v ≡ put o n v
unfolding put
put_over [] n w v h = refl
put_over (x ∷ o) (suc n) w v h = ap {B = Bytes} (λ r. x ∷ r) (put_over o n w v h)
put_over (x ∷ o) zero [] v h = refl
put_over (x ∷ o) zero (b ∷ w) [] h = absurd (not-suc-le-zero h)
put_over (x ∷ o) zero (b ∷ w) (c ∷ v) h = ap {B = Bytes} (λ r. c ∷ r) (put_over o zero w v (le_of_suc-le-suc h))

-- ---- the loop: from the back, a byte in front of those that are moved already

pub move_none : (o : Bytes) (e n : ℕ) → o ≡ put o (e + n) (take (e - e) (drop e o))
move_none o e n = let z : e - e ≡ 0 = omega arith in sym (ap (λ (k : ℕ). put o (e + n) (take k (drop e o))) z ∙ put_nil o (e + n))

pub move_one : {o₁ : Bytes} (o : Bytes) (i j e n : ℕ) → i ≡ suc j → i ≤ e → e + n ≤ length o → o₁ ≡ put o (i + n) (take (e - i) (drop i o)) → set o₁ (j + n) (get_or o₁ j 0) ≡ put o (j + n) (take (e - j) (drop j o))
move_one {o₁} o i j e n s h k g =
    let b = get_or o j 0 in
    let w = take (e - i) (drop i o) in
    let same : get_or o₁ j 0 ≡ b = ap (λ (x : Bytes). get_or x j 0) g ∙ getD_put o (i + n) w j (omega arith) in
    let fits : j + n < length o₁ = omega (arith, ap length g, length_put o (i + n) w) in
    let next : i + n ≡ j + n + length (b ∷ []) = omega arith in
    let less : e - j ≡ suc (e - i) = omega arith in
    let front : b ∷ w ≡ take (e - j) (drop j o) = sym (ap₂ (λ (m : ℕ) (x : Bytes). take m x) less (drop-cons o j 0 (omega arith) ∙ ap (λ (m : ℕ). b ∷ drop m o) (sym s))) in
    ap (set o₁ (j + n)) same ∙ sym (put_one o₁ (j + n) b fits) ∙ ap (λ (x : Bytes). put x (j + n) (b ∷ [])) (g ∙ ap (λ (m : ℕ). put o m w) next) ∙ put_back o (j + n) (b ∷ []) w ∙ ap (put o (j + n)) front

-- by a block of k bytes
pub move_block : {o₁ o₂ : Bytes} (o : Bytes) (k i j e n : ℕ) → i ≡ j + k → i ≤ e → e + n ≤ length o → o₁ ≡ put o (i + n) (take (e - i) (drop i o)) → o₂ ≡ put o₁ (j + n) (take k (drop j o₁)) → o₂ ≡ put o (j + n) (take (e - j) (drop j o))
move_block {o₁} {o₂} o k i j e n s h l g f =
    let w = take (e - i) (drop i o) in
    let b = take k (drop j o) in
    let same : take k (drop j o₁) ≡ b = ap (λ (x : Bytes). take k (drop j x)) g ∙ before_put o j k (i + n) w (omega arith) in
    let full : length b ≡ k = length-take-le k (drop j o) (omega (arith, length-drop j o)) in
    let next : i + n ≡ j + n + length b = omega arith in
    let less : e - j ≡ k + (e - i) = omega arith in
    let whole : b ++ w ≡ take (e - j) (drop j o) =
    ap (λ (x : Bytes). b ++ take (e - i) x) (ap (λ (m : ℕ). drop m o) s ∙ sym (drop-drop k j o)) ∙ sym (take-add k (e - i) (drop j o)) ∙ ap (λ (m : ℕ). take m (drop j o)) (sym less) in
    f ∙ ap₂ (λ (x y : Bytes). put x (j + n) y) (g ∙ ap (λ (m : ℕ). put o m w) next) same ∙ put_back o (j + n) b w ∙ ap (put o (j + n)) whole

-- as many as fit
move_clip : (o : Bytes) (p e n k : ℕ) → length o ≤ p + n + k → k ≤ e - p → put o (p + n) (take k (drop p o)) ≡ put o (p + n) (take (e - p) (drop p o))
move_clip o p e n k h l = ap (put o (p + n)) (sym (take-take k (e - p) (drop p o) l)) ∙ put_clip o (p + n) k (take (e - p) (drop p o)) h

-- up to the end, or as far as they fit
pub move_fit : (o : Bytes) (p e n : ℕ) {m : ℕ} → p + n < length o → p ≤ e → m ≡ min e (length o - n) → put o (p + n) (take (m - p) (drop p o)) ≡ put o (p + n) (take (e - p) (drop p o))
move_fit o p e n {m} h l g = on (leb e (length o - n)) refl
  where
    on : (b : Bool) → leb e (length o - n) ≡ b → put o (p + n) (take (m - p) (drop p o)) ≡ put o (p + n) (take (e - p) (drop p o))
    on true q = let z : m ≡ e = omega (arith, g, leb-true e (length o - n) q) in ap (λ (k : ℕ). put o (p + n) (take (k - p) (drop p o))) z
    on false q = let z = leb-false e (length o - n) q in move_clip o p e n (m - p) (omega (arith, g, z)) (omega (arith, g, z))
