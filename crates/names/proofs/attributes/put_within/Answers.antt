-- `put_within` meets its contract. The loop's invariant: the letters so far are written; two bytes for each letter are enough.
use mathlib.Core.Path.{◌≡◌, sym, ◌∙◌}
use mathlib.Core.List.{[], ◌∷◌}
use Prim.Native.Nat.{ℕ, ◌+◌, ◌≤◌, ◌<◌}
use native.Mathlib.Omega.{arith}
use lib.ListN.{length, take}
use lib.Seq.{length-take-le}
use Rattle.std.specs.Prelude.{Option, slice_index}
use Rattle.field.specs.Bytes.{Bytes}
use Rattle.field.specs.Put.{Wrote}
use Rattle.field.proofs.PutLaws.{put_one, wrote_is, wrote_then, wrote_length}
use Rattle.names.specs.Table.{spelled_letter, spelled}
use Rattle.names.proofs.CompareLaws.{capital_above}
use Rattle.names.proofs.SpellLaws.{spelled_next, spelled_most}
use Rattle.names.proofs.attributes.put_within.Goals as goal
use Rattle.names.proofs.attributes.put_within.Goals.{then-c-gt90, else-c-gt90}

-- before each letter there is room for what it becomes
room : {o o₁ : Bytes} {at a : ℕ} (n : Bytes) (s : Option ℕ) (i : ℕ) → at + (length n + length n) ≤ length o → i < length n → Wrote o at (spelled s (take i n)) o₁ a → a < length o₁
room n s i h k w =
    omega (arith, h, k, w.end_is, wrote_length w, spelled_most s (take i n), length-take-le i n (omega (arith, k)))

-- a small letter stays as it is
small_above : (s : Option ℕ) (c : ℕ) → 90 < c → c ∷ [] ≡ spelled_letter s c
unfolding spelled_letter
small_above s c h = rw (capital_above c h)

wrote_as : {o w p o' : Bytes} {at r r' : ℕ} → Wrote o at w p r → o' ≡ p → r' ≡ r → Wrote o at w o' r'
wrote_as h e f = record { out_is = e ∙ h.out_is; end_is = f ∙ h.end_is }

pub bounds-out-a : goal.bounds-out-a
bounds-out-a c = room c.args.name.now c.args.sign c.loop-c.c-index c.requires.0 c.loop-c-test.true c.loop-c.invariant

pub loop-c-preserved : goal.loop-c-preserved
loop-c-preserved c = let a = c.args in let i = c.loop-c.c-index in let k = c.loop-c-test.true in
    elim c.if-c-gt90.branch [
      | then-c-gt90 w ↦
          let h = room a.name.now a.sign i c.requires.0 k c.loop-c.invariant in
          wrote_is (spelled_next a.sign a.name.now i k) (wrote_then c.loop-c.invariant (wrote_is (small_above a.sign (slice_index a.name.now i) w.if-c-gt90.true) record { out_is = w.out-is ∙ sym (put_one _ _ _ h); end_is = w.a-is }))
      | else-c-gt90 w ↦ wrote_is (spelled_next a.sign a.name.now i k) (wrote_then c.loop-c.invariant (wrote_as w.put_letter-a.ensures w.out-is w.a-is))
    ]
