-- Two parts that stand one behind the other and are changed in place. Main statements: `part_is`, `part_put`, `second_is`, `second_put`.
-- Assumes nothing.
use Prim.Native.Nat.{ℕ, ◌+◌}
use mathlib.Core.Path.{◌≡◌, sym, ap, ap₂, ◌∙◌}
use mathlib.Core.List.{◌++◌, append_assoc}
use native.Mathlib.Omega.{arith}
use lib.ListN.{length, take, drop, length-append}
use lib.Seq.{take_at, drop_at}
use borrow.Rule.Slice.PartMut.{put_mid}
use Rattle.field.specs.Bytes.{Bytes}

-- w in the middle
module _ (h w r : Bytes) (k n : ℕ) (e : length h ≡ k) (f : n ≡ length w) where
  pub part_is : take n (drop k (h ++ (w ++ r))) ≡ w
  part_is = ap (take n) (drop_at h (w ++ r) k e) ∙ take_at w r n (sym f)

  pub part_put : (v : Bytes) → put_mid k n (h ++ (w ++ r)) v ≡ h ++ (v ++ r)
  part_put v = ap₂ (λ (a b : Bytes). a ++ (v ++ b)) (take_at h (w ++ r) k e) (ap (drop n) (drop_at h (w ++ r) k e) ∙ drop_at w r n (sym f))

-- q behind v, which took the place of as many bytes
module _ (h v q r : Bytes) (k m n : ℕ) (e : length h ≡ k) (l : m ≡ k + length v) (f : n ≡ length q) where
  both_long : length (h ++ v) ≡ m
  both_long = length-append h v ∙ omega arith

  regroup : h ++ (v ++ (q ++ r)) ≡ (h ++ v) ++ (q ++ r)
  regroup = sym (append_assoc h v (q ++ r))

  pub second_is : take n (drop m (h ++ (v ++ (q ++ r)))) ≡ q
  second_is = ap (λ (b : Bytes). take n (drop m b)) regroup ∙ part_is (h ++ v) q r m n both_long f

  pub second_put : (u : Bytes) → put_mid m n (h ++ (v ++ (q ++ r))) u ≡ h ++ (v ++ (u ++ r))
  second_put u = ap (λ (b : Bytes). put_mid m n b u) regroup ∙ part_put (h ++ v) q r m n both_long f u ∙ append_assoc h v (u ++ r)
