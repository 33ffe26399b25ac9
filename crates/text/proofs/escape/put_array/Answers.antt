-- `put_array` meets its contract. The loop's invariant: the first i bytes are written.
use native.Mathlib.Omega.{arith}
use native.Mathlib.Numerals.{add-one}
use native.Mathlib.Nat.{le_of_lt}
use mathlib.Core.Path.{◌≡◌, refl, sym, ◌∙◌}
use Prim.Native.Nat.{ℕ, ◌+◌, ◌<◌}
use mathlib.Core.List.{◌∷◌, []}
use lib.ListN.{length, take, set, get_or}
use lib.Seq.{take-suc, length-take-le}
use Rattle.field.specs.Bytes.{Bytes}
use Rattle.field.specs.Put.{put}
use Rattle.field.proofs.PutLaws.{put_nil, put_one, put_then}
use Rattle.text.proofs.escape.put_array.Goals as goal

-- one byte more: the store is a `put` of one byte right behind what stands there
one_more : {o₁ : Bytes} (o : Bytes) (at : ℕ) (s : Bytes) (i : ℕ) → i < length s → at + i < length o₁ → o₁ ≡ put o at (take i s) → set o₁ (at + i) (get_or s i 0) ≡ put o at (take (i + 1) s)
one_more {o₁} o at s i h k e =
    put_then o at i (at + i) (take i s) (get_or s i 0 ∷ []) e (sym (length-take-le i s (le_of_lt h))) refl (sym (put_one o₁ (at + i) (get_or s i 0) k)) ∙ rw (add-one, take-suc s i 0 h)

pub loop-i-init : goal.loop-i-init
loop-i-init g c = sym (put_nil _ _)

pub loop-i-preserved : goal.loop-i-preserved
loop-i-preserved g c = one_more c.args.out.now c.args.at c.args.bytes.now c.loop-i.i (omega arith) (omega arith) c.loop-i.invariant
