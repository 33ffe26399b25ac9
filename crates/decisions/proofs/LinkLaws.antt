-- Two bytes written into an index, and what one more entry changes of it. Main statements: `two_other`, `two_same`, `linked_is`,
-- `links`. Assumes nothing.
use mathlib.Core.Path.{◌≡◌, refl, sym, ap, ◌∙◌}
use Prim.Native.Nat.{ℕ, zero, suc, ◌+◌, ◌*◌, ◌/◌, ◌%◌, ◌≤◌, ◌<◌}
use native.Mathlib.Nat.{not-suc-le-zero, le_of_suc-le-suc}
use native.Mathlib.Numerals.{add-one}
use native.Mathlib.Omega.{arith}
use mathlib.Core.List.{[], ◌∷◌}
use lib.ListN.{length, drop, get_or}
use borrow.Author.Tests.{lt-ltb}
use Rattle.field.specs.Bytes.{Bytes}
use Rattle.field.specs.Number.{big_endian}
use Rattle.field.specs.Put.{put}
use Rattle.field.proofs.PutLaws.{length_put, put_nil}
use Rattle.field.proofs.NumberLaws.{length_big_endian}
use Rattle.decisions.specs.Index.{two_at, linked}

-- ---- what a write leaves

pub front_kept : (o : Bytes) (n : ℕ) (w : Bytes) (j : ℕ) → j < n → get_or (put o n w) j 0 ≡ get_or o j 0
unfolding put
front_kept [] n w j h = refl
front_kept (x ∷ o) zero w j h = absurd (not-suc-le-zero h)
front_kept (x ∷ o) (suc n) w zero h = refl
front_kept (x ∷ o) (suc n) w (suc j) h = front_kept o n w j (le_of_suc-le-suc h)

drop_kept : (o : Bytes) (n : ℕ) (w : Bytes) (m : ℕ) → n + length w ≤ m → drop m (put o n w) ≡ drop m o
unfolding put
drop_kept [] n w m h = refl
drop_kept (x ∷ o) (suc n) w zero h = absurd (omega arith)
drop_kept (x ∷ o) (suc n) w (suc m) h = drop_kept o n w m (omega arith)
drop_kept (x ∷ o) zero [] m h = refl
drop_kept (x ∷ o) zero (b ∷ w) zero h = absurd (omega arith)
drop_kept (x ∷ o) zero (b ∷ w) (suc m) h = drop_kept o zero w m (omega arith)

-- two bytes, all others, and each of them
others_kept : (o : Bytes) (n a b j : ℕ) → (j ≡ n → ⊥) → (j ≡ suc n → ⊥) → get_or (put o n (a ∷ b ∷ [])) j 0 ≡ get_or o j 0
unfolding put
others_kept [] n a b j h i = refl
others_kept (x ∷ o) (suc n) a b zero h i = refl
others_kept (x ∷ o) (suc n) a b (suc j) h i = others_kept o n a b j (λ z. h (ap suc z)) (λ z. i (ap suc z))
others_kept (x ∷ o) zero a b zero h i = absurd (h refl)
others_kept (x ∷ o) zero a b (suc zero) h i = absurd (i refl)
others_kept (x ∷ []) zero a b (suc (suc j)) h i = refl
others_kept (x ∷ y ∷ o) zero a b (suc (suc j)) h i = ap (λ (l : Bytes). get_or l j 0) (put_nil o zero)

first_put : (o : Bytes) (n a b : ℕ) → suc n < length o → get_or (put o n (a ∷ b ∷ [])) n 0 ≡ a
unfolding put
first_put [] n a b h = absurd (omega arith)
first_put (x ∷ o) (suc n) a b h = first_put o n a b (omega arith)
first_put (x ∷ o) zero a b h = refl

second_put : (o : Bytes) (n a b : ℕ) → suc n < length o → get_or (put o n (a ∷ b ∷ [])) (suc n) 0 ≡ b
unfolding put
second_put [] n a b h = absurd (omega arith)
second_put (x ∷ o) (suc n) a b h = second_put o n a b (omega arith)
second_put (x ∷ []) zero a b h = absurd (omega arith)
second_put (x ∷ y ∷ o) zero a b h = refl

-- ---- a number of two bytes

pub two_other : (b : Bytes) (i v j : ℕ) → (j ≡ i → ⊥) → (j ≡ suc i → ⊥) → (suc j ≡ i → ⊥) → two_at (put b i (big_endian 2 v [])) j ≡ two_at b j
unfolding two_at big_endian
two_other b i v j h k l =
    rw (length_put, add-one j, others_kept b i (v / 256 % 256) (v % 256) j h k, others_kept b i (v / 256 % 256) (v % 256) (suc j) l (λ z. omega (arith, h)))

pub two_same : (b : Bytes) (i v : ℕ) → v < 65536 → i + 1 < length b → two_at (put b i (big_endian 2 v [])) i ≡ v
unfolding two_at big_endian
two_same b i v h k =
    let l : suc i < length b = omega arith in
    rw (length_put, lt-ltb (i + 1) (length b) k, add-one i, first_put b i (v / 256 % 256) (v % 256) l, second_put b i (v / 256 % 256) (v % 256) l) (omega arith)

-- ---- one more entry

-- o is b with entry k, of that hash, with the name at that place: what else is read of it is as it was
pub record Links (b : Bytes) (h k place : ℕ) (o : Bytes) : Type 0 where
  pub size : length o ≡ length b
  pub head_new : two_at o (2 * h) ≡ k + 1
  pub heads : (g : ℕ) → g < 1024 → (g ≡ h → ⊥) → two_at o (2 * g) ≡ two_at b (2 * g)
  pub before_new : two_at o (2048 + 4 * k) ≡ two_at b (2 * h)
  pub befores : (j : ℕ) → j < k → two_at o (2048 + 4 * j) ≡ two_at b (2048 + 4 * j)
  pub place_new : two_at o (2050 + 4 * k) ≡ place
  pub places : (j : ℕ) → j < k → two_at o (2050 + 4 * j) ≡ two_at b (2050 + 4 * j)
  pub series : drop 7512 o ≡ drop 7512 b

module _ (b : Bytes) (h k p : ℕ) (s : length b ≡ 11608) (i : h < 1024) (l : k < 1366) (m : p < 65536) (n : two_at b (2 * h) < 65536) where
  abbrev one_put : Bytes
  one_put = put b (2048 + 4 * k) (big_endian 2 (two_at b (2 * h)) [])

  abbrev two_put : Bytes
  two_put = put one_put (2050 + 4 * k) (big_endian 2 p [])

  -- what stands in none of the three numbers
  else_kept : (j : ℕ) → (j ≡ 2048 + 4 * k → ⊥) → (j ≡ suc (2048 + 4 * k) → ⊥) → (suc j ≡ 2048 + 4 * k → ⊥) →
      (j ≡ 2050 + 4 * k → ⊥) → (j ≡ suc (2050 + 4 * k) → ⊥) → (suc j ≡ 2050 + 4 * k → ⊥) →
      (j ≡ 2 * h → ⊥) → (j ≡ suc (2 * h) → ⊥) → (suc j ≡ 2 * h → ⊥) → two_at (linked b h k p) j ≡ two_at b j
  else_kept j c d e f g q r t u =
      two_other two_put (2 * h) (k + 1) j r t u ∙
      two_other one_put (2050 + 4 * k) p j f g q ∙
      two_other b (2048 + 4 * k) (two_at b (2 * h)) j c d e

  size_one : length one_put ≡ 11608
  size_one = length_put b (2048 + 4 * k) (big_endian 2 (two_at b (2 * h)) []) ∙ s

  size_two : length two_put ≡ 11608
  size_two = length_put one_put (2050 + 4 * k) (big_endian 2 p []) ∙ size_one

  series_kept : drop 7512 (linked b h k p) ≡ drop 7512 b
  series_kept =
      drop_kept two_put (2 * h) (big_endian 2 (k + 1) []) 7512 (omega (arith, length_big_endian 2 (k + 1) [])) ∙
      drop_kept one_put (2050 + 4 * k) (big_endian 2 p []) 7512 (omega (arith, length_big_endian 2 p [])) ∙
      drop_kept b (2048 + 4 * k) (big_endian 2 (two_at b (2 * h)) []) 7512 (omega (arith, length_big_endian 2 (two_at b (2 * h)) []))

  pub links : Links b h k p (linked b h k p)
  links =
      record {
        size = length_put two_put (2 * h) (big_endian 2 (k + 1) []) ∙ size_two ∙ sym s;
        head_new = two_same two_put (2 * h) (k + 1) (omega arith) (omega (arith, size_two));
        heads = λ g q r. else_kept (2 * g) (λ z. omega arith) (λ z. omega arith) (λ z. omega arith) (λ z. omega arith) (λ z. omega arith) (λ z. omega arith) (λ z. r (omega arith)) (λ z. omega arith) (λ z. omega arith);
        before_new =
            two_other two_put (2 * h) (k + 1) (2048 + 4 * k) (λ z. omega arith) (λ z. omega arith) (λ z. omega arith) ∙
            two_other one_put (2050 + 4 * k) p (2048 + 4 * k) (λ z. omega arith) (λ z. omega arith) (λ z. omega arith) ∙
            two_same b (2048 + 4 * k) (two_at b (2 * h)) n (omega arith);
        befores = λ j q. else_kept (2048 + 4 * j) (λ z. omega arith) (λ z. omega arith) (λ z. omega arith) (λ z. omega arith) (λ z. omega arith) (λ z. omega arith) (λ z. omega arith) (λ z. omega arith) (λ z. omega arith);
        place_new =
            two_other two_put (2 * h) (k + 1) (2050 + 4 * k) (λ z. omega arith) (λ z. omega arith) (λ z. omega arith) ∙
            two_same one_put (2050 + 4 * k) p m (omega (arith, size_one));
        places = λ j q. else_kept (2050 + 4 * j) (λ z. omega arith) (λ z. omega arith) (λ z. omega arith) (λ z. omega arith) (λ z. omega arith) (λ z. omega arith) (λ z. omega arith) (λ z. omega arith) (λ z. omega arith);
        series = series_kept;
      }
