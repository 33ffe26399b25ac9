use mathlib.Core.Path.{refl, ap, ◌∙◌}
use lib.Dec.{eqb}
use Rattle.field.specs.Bytes.{same}
use Rattle.decisions.specs.Repeats.{letters}
use Rattle.decisions.proofs.RepeatLaws.{reads_same}
use Rattle.decisions.proofs.repeats.Spelled.is.Goals as goal

pub returns : goal.returns
returns c =
    let r = c.eq.ensures.ran in
    reads_same eqb (λ a b. refl) r.1 r.2 c.args.self r.0 r.3 r.4 r.5 r.6 r.8 r.9 r.10 r.11 ∙ ap (λ y. same (letters c.args.self) (letters y)) r.7
