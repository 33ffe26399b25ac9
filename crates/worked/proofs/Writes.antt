-- What the code leaves in the lent buffer. Main statements: `number_written`; of a field `leaf_written`, `plus_written`, `minus_written`,
-- `nest_written`; of a row `left_start`, `left_on`, `left_end`. Assumes nothing.
use Prim.Native.Nat.{ℕ, ◌+◌, ◌-◌, ◌*◌, ◌≤◌}
use mathlib.Core.Path.{◌≡◌, refl, sym, ◌∙◌, ap, ap₂, subst}
use mathlib.Core.Bool.{Bool, true, false}
use mathlib.Core.List.{[], ◌++◌}
use native.Mathlib.Omega.{arith}
use lib.ListN.{length, length-append}
use Rattle.field.specs.Bytes.{Bytes, AllBytes}
use Rattle.field.specs.Number.{big_endian}
use Rattle.field.specs.Row.{field_bytes, read, next, Ended}
use Rattle.field.specs.Fields.{IsFront}
use Rattle.field.specs.Put.{put, Wrote, head}
use Rattle.field.proofs.FrontLaws.{next_at, parts_at}
use Rattle.field.proofs.Reading.{AllParts}
use Rattle.field.specs.Front.{body_of, behind_of}
use Rattle.field.proofs.PutLaws.{put_put, wrote_is, wrote_field, wrote_behind}
use Rattle.page.specs.Number.{whole, number_bytes}
use Rattle.sums.specs.Value.{Worked}
use Rattle.sums.specs.declared.value.Sum.TheVariants as W
use Rattle.std.specs.Prelude.{Some, None}
use Rattle.worked.specs.Row.{holds, field_sum, worked_bytes, worked_field}
use Rattle.worked.proofs.Fields.{worked_front, worked_none, worked_leaf, worked_nest, worked_plus, worked_minus}
use Rattle.worked.proofs.Sizes.{field_room}

pub number_written : {o o₁ : Bytes} {n n₁ : ℕ} (t k : ℕ) → Wrote o n (field_bytes t (big_endian 8 k [])) o₁ n₁ → Wrote o n (field_bytes t (number_bytes (whole k))) o₁ n₁
unfolding number_bytes
number_written t k w = w

-- ---- the loop: what is left, written from here on, gives what the whole gives from the start
pub record Left (s o : Bytes) (at : ℕ) (t out : Bytes) (a : ℕ) : Type 0 where
  pub rest : put out a (worked_bytes t) ≡ put o at (worked_bytes s)
  pub place : a + length (worked_bytes t) ≡ at + length (worked_bytes s)
  pub room : a + 2 * length t ≤ at + 2 * length s
  pub short : length t ≤ length s
  pub all : AllBytes t

pub left_start : (s o : Bytes) (at : ℕ) → AllBytes s → Left s o at s o at
left_start s o at a = record { rest = refl; place = refl; room = omega arith; short = omega arith; all = a }

module _ {t : Bytes} {u : ℕ} {w r : Bytes} (g : IsFront t u w r) where
  front_is : worked_bytes t ≡ worked_field u w ++ worked_bytes r
  front_is = worked_front t u w r (next_at t u g.tag_is (λ z. omega (arith, z, g.tag_below)) ∙ ap₂ (λ (x y : Bytes). next u x y) (sym g.body_is) (sym g.behind_is))

  parts : AllBytes t → AllParts t u (body_of t) (behind_of t)
  parts = parts_at t u g.tag_is (λ z. omega (arith, z, g.tag_below))

  pub body_all : AllBytes t → AllBytes w
  body_all a = subst AllBytes (sym g.body_is) (parts a).body_all

  pub left_on : {s o out out₂ : Bytes} {at a a₂ : ℕ} → Left s o at t out a → Wrote out a (worked_field u w) out₂ a₂ → Left s o at r out₂ a₂
  left_on {s} {o} {out} {out₂} {at} {a} {a₂} l v =
      let k : length (worked_bytes t) ≡ length (worked_field u w) + length (worked_bytes r) = ap length front_is ∙ length-append (worked_field u w) (worked_bytes r) in
      let p : put (put out a (worked_field u w)) (a + length (worked_field u w)) (worked_bytes r) ≡ put out a (worked_bytes t) = put_put out a (worked_field u w) (worked_bytes r) ∙ ap (put out a) (sym front_is) in
      record {
        rest = ap (λ (y : Bytes). put y a₂ (worked_bytes r)) v.out_is ∙ ap (λ (y : ℕ). put (put out a (worked_field u w)) y (worked_bytes r)) v.end_is ∙ p ∙ l.rest;
        place = omega (arith, v.end_is, k, l.place);
        room = omega (arith, v.end_is, field_room u w, g.sizes, l.room);
        short = omega (arith, g.sizes, l.short);
        all = subst AllBytes (sym g.behind_is) (parts l.all).behind_all;
      }

pub left_end : {t : Bytes} → Ended (read t) → {s o out out₂ : Bytes} {at a a₂ : ℕ} → Left s o at t out a → Wrote out a t out₂ a₂ → Wrote o at (worked_bytes s) out₂ a₂
left_end {t} h {s} {o} {out} {out₂} {at} {a} {a₂} l u =
    let f : t ≡ worked_bytes t = worked_none t h in
    record {
      out_is = u.out_is ∙ ap (put out a) f ∙ l.rest;
      end_is = omega (arith, u.end_is, ap length f, l.place);
    }

-- ---- one field
module _ (t : ℕ) (w : Bytes) {o o₁ : Bytes} {n n₁ : ℕ} {b : Bool} (q : b ≡ holds t) where
  pub leaf_written : b ≡ false → AllBytes w → Wrote o n (field_bytes t w) o₁ n₁ → Wrote o n (worked_field t w) o₁ n₁
  leaf_written e a u = wrote_is (worked_leaf t w (sym q ∙ e) a) u

  module _ (e : b ≡ true) {x : Worked} (p : x ≡ field_sum t (read w)) where
    pub plus_written : {k : ℕ} → x ≡ Some (W.Plus k) → Wrote o n (field_bytes 0x71 (number_bytes (whole k))) o₁ n₁ → Wrote o n (worked_field t w) o₁ n₁
    plus_written {k} h u = wrote_is (worked_plus t w (sym q ∙ e) k p h) u

    pub minus_written : {k : ℕ} → x ≡ Some (W.Minus k) → Wrote o n (field_bytes 0x75 (number_bytes (whole k))) o₁ n₁ → Wrote o n (worked_field t w) o₁ n₁
    minus_written {k} h u = wrote_is (worked_minus t w (sym q ∙ e) k p h) u

    pub nest_written : x ≡ None → {o₂ : Bytes} {n₂ m : ℕ} → m ≡ n + 3 → Wrote o m (worked_bytes w) o₁ n₁ → Wrote o₁ n (head t (n₁ - m)) o₂ n₂ → Wrote o n (worked_field t w) o₂ n₁
    nest_written h r u v = wrote_is (worked_nest t w (sym q ∙ e) p h) (wrote_behind t r u v)
