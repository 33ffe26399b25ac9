-- `html::put_one` meets its contract: no sign is above `>`. Assumes nothing.
use mathlib.Core.Path.{refl, sym}
use native.Mathlib.Omega.{arith}
use borrow.Author.Tests.{ne_eqb}
use Rattle.field.proofs.PutLaws.{wrote_is, put_one}
use Rattle.text.proofs.EscapeLaws.{escape_other}
use Rattle.fill.proofs.html.put_one.Goals as goal

pub returns : goal.returns
returns c =
    let b = c.args.b in
    wrote_is (sym (escape_other b (ne_eqb b 38 (λ e. omega (arith, e))) (ne_eqb b 60 (λ e. omega (arith, e))) (ne_eqb b 62 (λ e. omega (arith, e))) (ne_eqb b 39 (λ e. omega (arith, e))) (ne_eqb b 34 (λ e. omega (arith, e)))))
    record { out_is = sym (put_one c.args.out.now c.args.at b (omega (arith, c.requires))); end_is = refl }
