-- `text::decimal::put_decimal` meets its contract. The loop's invariant: the digits still to come, in front of those from i on, are the
-- number's, and the buffer has a place for each. Assumes nothing.
use native.Mathlib.Omega.{arith}
use mathlib.Core.Path.{refl, subst}
use Rattle.field.specs.Bytes.{Bytes}
use Rattle.field.specs.Put.{Wrote}
use Rattle.field.proofs.PutLaws.{wrote_is}
use Rattle.text.specs.Decimal.{decimal}
use Rattle.text.proofs.DecimalLaws.{filling_start, filled, filling_more}
use Rattle.text.proofs.decimal.put_decimal.Goals as goal

pub loop-m-init : goal.loop-m-init
loop-m-init c = (filling_start _ _ refl (omega arith), refl)

pub returns-then-m-eq0 : goal.returns-then-m-eq0
returns-then-m-eq0 c = let args = c.args in let e = filled args.n c.loop-m.buf c.loop-m.i c.loop-m.m c.loop-m.invariant.0 c.if-m-eq0.true in
    subst (λ (o : Bytes). Wrote o args.at (decimal args.n) c.put_bytes.new.out c.put_bytes.result) c.loop-m.invariant.1 (wrote_is e c.put_bytes.ensures)

pub loop-m-preserved : goal.loop-m-preserved
loop-m-preserved c = let args = c.args in (filling_more args.n c.loop-m.buf c.loop-m.i c.loop-m.m c.loop-m.invariant.0 c.if-m-eq0.false, c.loop-m.invariant.1)
