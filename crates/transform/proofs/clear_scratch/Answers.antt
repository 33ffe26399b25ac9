-- `clear_scratch` meets its contract: by the refusal. Assumes nothing.
use mathlib.Core.Path.{sym, ap, ◌∙◌}
use mathlib.Core.Bool.{Bool}
use Rattle.field.specs.Bytes.{pick}
use Rattle.spec.specs.Answer.{zeros}
use Rattle.transform.proofs.ExportLaws.{cleared}
use Rattle.transform.proofs.clear_scratch.Goals as goal

pub returns-then-ne : goal.returns-then-ne
returns-then-ne c =
    let b = c.args.scratch.now in
    c.fill.ensures.after (λ y e. e) ∙ sym (ap (λ (x : Bool). pick x (zeros b) b) c.if-ne.true) ∙ cleared b c.args.r c.ne.result c.ne.ensures

pub returns-else-ne : goal.returns-else-ne
returns-else-ne c =
    let b = c.args.scratch.now in
    sym (ap (λ (x : Bool). pick x (zeros b) b) c.if-ne.false) ∙ cleared b c.args.r c.ne.result c.ne.ensures
