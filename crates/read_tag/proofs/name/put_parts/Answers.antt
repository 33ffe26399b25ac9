-- `read_tag::name::put_parts` meets its contract. Assumes nothing.
use mathlib.Core.Path.{◌∙◌}
use Rattle.read_tag.proofs.NameLaws.{parts_start, step_in}
use Rattle.read_tag.proofs.NameWalkLaws.{PuttingOn, putting_first, parts_out, putting_step}
use Rattle.read_tag.proofs.name.put_parts.Goals as goal

pub loop-part-init : goal.loop-part-init
loop-part-init c = parts_start _ (λ k. PuttingOn c.args.text.now c.args.i c.args.out.now c.args.at k c.args.out.now c.args.at) c.into_iter-part-iterator.ensures.into_iter_gives c.parts_at-part-items.ensures (putting_first _ _ _ _ c.requires.0)

pub loop-part-preserved : goal.loop-part-preserved
loop-part-preserved c =
    let u = c.loop-part.invariant in
    (c.in-Some.ensures.steps.0 ∙ u.0, putting_step _ _ _ _ c.requires.0 _ c.put_field-o.ensures _ _ u.1 (step_in _ _ _ _ u.0 c.in-Some.ensures.steps.1))

pub returns : goal.returns
returns c =
    let u = c.loop-part.invariant in
    parts_out _ _ _ _ c.requires.0 _ _ _ _ u.1 (step_in _ _ _ _ u.0 c.in-None.ensures.steps.1)
