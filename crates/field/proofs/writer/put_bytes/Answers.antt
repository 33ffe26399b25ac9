-- `field::writer::put_bytes` meets its contract, by whether all bytes fit, none, or some. Assumes nothing.
use native.Mathlib.Omega.{arith}
use Prim.Native.Nat.{◌+◌, ◌-◌}
use mathlib.Core.Path.{◌≡◌, refl, sym, ap, ◌∙◌}
use lib.ListN.{length, take}
use lib.Seq.{length-take-le}
use borrow.Rule.Slice.PartMut.{put_mid}
use Rattle.field.proofs.PutLaws.{put_out, put_clip, put_part}
use Rattle.field.proofs.writer.put_bytes.Goals as goal

pub returns-else-s-ge16 : goal.returns-else-s-ge16
returns-else-s-ge16 c = record { out_is = rw c.copy_bytes.ensures (put_part _ _ _ c.if-end-out.true); end_is = refl }

pub returns-then-s-ge16 : goal.returns-then-s-ge16
returns-then-s-ge16 c = record { out_is = rw c.copy_blocks.ensures (put_part _ _ _ c.if-end-out.true); end_is = refl }

pub returns-then-at-out : goal.returns-then-at-out
returns-then-at-out c =
    let a = c.args in
    let out = a.out.now in
    let room = length out - a.at in
    let w = take room a.s.now in
    let l : length w ≡ room = length-take-le room a.s.now (omega arith) in
    let k : room ≡ a.at + length w - a.at = omega (arith, l) in
    record { out_is = rw c.copy_bytes-then-at-out.ensures (ap (λ n. put_mid a.at n out w) k ∙ put_part out a.at w (omega (arith, l)) ∙ put_clip out a.at room a.s.now (omega arith)); end_is = refl }

pub returns-else-at-out : goal.returns-else-at-out
returns-else-at-out c = record { out_is = sym (put_out _ _ _ c.if-at-out.false); end_is = refl }
