-- Laws of a text that is written piece by piece: each piece has room where the whole has.
-- Main statements: `room_for`, `wrote_more`.
-- Assumes nothing.
use mathlib.Core.Path.{◌≡◌, sym, ap, ◌∙◌}
use mathlib.Core.Bool.{Bool, true, false, false≢true}
use lib.Dec.{eqb}
use borrow.Author.Tests.{eqb-true, eq-eqb}
use Prim.Native.Nat.{ℕ, ◌+◌, ◌≤◌, ◌<◌}
use native.Mathlib.Omega.{arith}
use mathlib.Core.List.{◌++◌}
use lib.ListN.{length, length-append}
use Rattle.field.specs.Bytes.{Bytes}
use Rattle.field.specs.Put.{Wrote}
use Rattle.field.proofs.PutLaws.{wrote_then, wrote_is}

-- what is written, and the next piece, are a front of the whole
pub room_for : {o o₁ done front : Bytes} {at a m k : ℕ} (piece : Bytes) → Wrote o at done o₁ a → done ++ piece ≡ front → length front ≤ m → at + m < k → a + length piece < k
room_for {o} {o₁} {done} {front} piece w e h l = omega (arith, w.end_is, length-append done piece, ap (λ (t : Bytes). length t) e)

-- the next piece is written
pub wrote_more : {o o₁ o₂ done piece front : Bytes} {at a b : ℕ} → Wrote o at done o₁ a → done ++ piece ≡ front → Wrote o₁ a piece o₂ b → Wrote o at front o₂ b
wrote_more w e v = wrote_is e (wrote_then w v)

-- what `is_empty` says of a length
pub empty_is : {b : Bool} (n : ℕ) → b ≡ eqb n 0 → b ≡ true → n ≡ 0
empty_is n e h = eqb-true n 0 (sym e ∙ h)

pub filled_is : {b : Bool} (n : ℕ) → b ≡ eqb n 0 → b ≡ false → n ≡ 0 → ⊥
filled_is n e h z = false≢true (sym (sym e ∙ h) ∙ eq-eqb n 0 z)
