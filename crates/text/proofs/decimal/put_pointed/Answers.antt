-- `text::decimal::put_pointed` meets its contract. The loop's invariant: the places still to come, in front of those from i on, are the
-- number's, what is above them is its whole part, and the buffer has a place for each and for the point. Assumes nothing.
use native.Mathlib.Omega.{arith}
use mathlib.Core.Path.{ap}
use Prim.Native.Nat.{◌-◌}
use lib.ListN.{length, length-append}
use Rattle.field.specs.Bytes.{Bytes}
use Rattle.field.proofs.PutLaws.{wrote_is, wrote_then}
use Rattle.text.proofs.PlacesLaws.{placing_more, placed}
use Rattle.text.proofs.decimal.put_pointed.Goals as goal

pub loop-i-preserved : goal.loop-i-preserved
loop-i-preserved c = (omega arith, placing_more _ c.loop-i.invariant.1 (omega arith))

pub put_decimal-a-requires : goal.put_decimal-a-requires
put_decimal-a-requires c = let e = placed (16 - c.args.places) c.loop-i.invariant.1 (omega arith) (omega arith) in
    omega (arith, simp length-append at (ap (λ (t : Bytes). length t) e))

pub put_bytes-requires : goal.put_bytes-requires
put_bytes-requires c = let e = placed (16 - c.args.places) c.loop-i.invariant.1 (omega arith) (omega arith) in
    omega (arith, c.put_decimal-a.ensures.end_is, simp length-append at (ap (λ (t : Bytes). length t) e))

pub returns : goal.returns
returns c = let e = placed (16 - c.args.places) c.loop-i.invariant.1 (omega arith) (omega arith) in
    wrote_is e (wrote_then c.put_decimal-a.ensures c.put_bytes.ensures)
