-- Texts that are written part by part: the room that each part has, and what is left to write, as the invariants of the loops have it: it
-- fits below 2 ^ 63, and once it is written, so is the text.
-- Main statements: `room_is`, `room_first`, `room_next`, `left_begin`, `left_room`, `left_on`, `left_done`. Assumes nothing.
use mathlib.Core.Path.{◌≡◌, sym, ap}
use Prim.Native.Nat.{ℕ, ◌+◌, ◌<◌, ◌^◌}
use native.Mathlib.Omega.{arith}
use mathlib.Core.List.{[], ◌++◌}
use lib.ListN.{length, length-append}
use Rattle.field.specs.Bytes.{Bytes}
use Rattle.field.specs.Put.{Wrote}
use Rattle.field.proofs.PutLaws.{wrote_none, wrote_then, wrote_is}

-- ---- room

abbrev pub Room : ℕ → Bytes → Type 0
Room n x = n + length x < 2 ^ 63

-- the same bytes by another name
pub room_is : (n : ℕ) {x y : Bytes} → x ≡ y → Room n x → Room n y
room_is n {x} {y} q h = omega (arith, h, ap length q)

-- the first part of a text, and what follows once it is written
pub room_first : (n : ℕ) (a b : Bytes) → Room n (a ++ b) → Room n a
room_first n a b h = omega (arith, h, length-append a b)

pub room_next : {o o₁ a : Bytes} {n n₁ : ℕ} (b : Bytes) → Wrote o n a o₁ n₁ → Room n (a ++ b) → Room n₁ b
room_next {a = a} b w h = omega (arith, h, w.end_is, length-append a b)

-- ---- y is left to write at n, so that x is written from n₀ on

pub record Left (o₀ : Bytes) (n₀ : ℕ) (x : Bytes) (o : Bytes) (n : ℕ) (y : Bytes) : Type 0 where
  pub room : Room n y
  pub rest : (o' : Bytes) (n' : ℕ) → Wrote o n y o' n' → Wrote o₀ n₀ x o' n'

pub left_begin : (o x : Bytes) (n : ℕ) → Room n x → Left o n x o n x
left_begin o x n h = record { room = h; rest = λ o' n' w. w }

module _ {o₀ x o y : Bytes} {n₀ n : ℕ} (l : Left o₀ n₀ x o n y) where
  pub left_room : (a b : Bytes) → y ≡ a ++ b → Room n a
  left_room a b q = room_first n a b (room_is n q l.room)

  pub left_on : {a b o₁ : Bytes} {n₁ : ℕ} → y ≡ a ++ b → Wrote o n a o₁ n₁ → Left o₀ n₀ x o₁ n₁ b
  left_on {a} {b} {o₁} {n₁} q w =
      record {
        room = room_next b w (room_is n q l.room);
        rest = λ o' n' v. l.rest o' n' (wrote_is (sym q) (wrote_then w v));
      }

  pub left_done : y ≡ [] → Wrote o₀ n₀ x o n
  left_done q = l.rest o n (wrote_is (sym q) (wrote_none o n))
