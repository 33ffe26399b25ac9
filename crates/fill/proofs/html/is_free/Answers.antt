-- `html::is_free` meets its contract: no byte is `<` or `>`. Assumes nothing.
use mathlib.Core.Path.{◌∙◌, ap₂}
use mathlib.Core.Bool.{Bool, ◌&&◌}
use Rattle.text.proofs.RunLaws.{last_is}
use Rattle.fill.specs.Writing.{no_sign}
use Rattle.fill.proofs.TextLaws.{free_is, free_ends}
use Rattle.fill.proofs.html.is_free.Goals as goal

pub returns-then-s-lt8 : goal.returns-then-s-lt8
returns-then-s-lt8 c = c.is_run.ensures ∙ free_is c.args.s.now

pub returns : goal.returns
returns c =
    let s = c.args.s.now in
    let l = last_is no_sign s 8 c.if-s-lt8.false c.are_free-2.ensures in
    ap₂ (λ (x y : Bool). x && y) c.are_free.ensures l ∙ free_ends s c.if-s-lt8.false c.if-s-ge16.false
