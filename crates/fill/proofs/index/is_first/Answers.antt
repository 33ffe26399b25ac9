-- `fill::index::is_first` meets its contract: what is less stands before. Assumes nothing.
use mathlib.Core.Path.{sym, ◌∙◌}
use native.Mathlib.Omega.{arith}
use borrow.Author.Tests.{ltb-true}
use Rattle.fill.proofs.Firsts.{first_here}
use Rattle.fill.proofs.index.is_first.Goals as goal

pub returns-then-i-eq0 : goal.returns-then-i-eq0
returns-then-i-eq0 c h =
    let e = c.in-Some.ensures.lookup in
    first_here c.args.numbers.now c.args.number c.args.i c.requires e.3.0 (sym (e.3.1 0) ∙ c.if-n-number.true) (λ l. omega (arith, l, c.if-i-eq0.true))

pub returns-else-i-eq0 : goal.returns-else-i-eq0
returns-else-i-eq0 c h =
    let e = c.in-Some.ensures.lookup in
    first_here c.args.numbers.now c.args.number c.args.i c.requires e.3.0 (sym (e.3.1 0) ∙ c.if-n-number.true) (λ l. ltb-true _ _ h)
