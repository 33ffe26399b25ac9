-- `sums::reader::grow` meets its contract. Assumes nothing.
use mathlib.Core.Path.{◌≡◌, ◌∙◌}
use native.Mathlib.Omega.{arith}
use Prim.Native.Nat.{◌+◌, ◌-◌, ◌*◌, min}
use Rattle.sums.proofs.Packs.{grown_fits}
use Rattle.sums.proofs.reader.grow.Goals as goal

pub returns-then-n-gt-MOST : goal.returns-then-n-gt-MOST
returns-then-n-gt-MOST c =
    let n = c.args.n in
    let d = c.args.c in
    let e : 9007199254740992 ≡ min (n * 10 + (d - 48)) 9007199254740992 = omega (arith, c.if-n-gt-MOST.true) in
    e ∙ grown_fits n d

pub returns : goal.returns
returns c =
    let n = c.args.n in
    let d = c.args.c in
    let e : c.min.result ≡ min (n * 10 + (d - 48)) 9007199254740992 = omega (arith, c.min.ensures, c.from.ensures) in
    e ∙ grown_fits n d
