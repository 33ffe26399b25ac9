-- The invariant: the entries and what is left of the series have its names, and a name's place is where what is left of it begins.
use mathlib.Core.Path.{ap, ◌∙◌}
use native.Mathlib.Omega.{arith}
use Rattle.decisions.specs.Index.{hash}
use Rattle.decisions.proofs.BuildLaws.{built_none, built_more, built_past, built_all}
use Rattle.decisions.proofs.index.index_names.Goals as goal
use Rattle.decisions.proofs.index.index_names.Goals.{then-field-eq-SOURCE, else-field-eq-SOURCE}

pub loop-field-init : goal.loop-field-init
loop-field-init c = rw c.into_iter-field-iterator.ensures.into_iter_gives (built_none c.args.list.now c.args.out.now c.requires.0 c.requires.1.0 c.requires.1.1 c.put_bytes.ensures.out_is, omega arith)

pub loop-field-preserved : goal.loop-field-preserved
loop-field-preserved c =
    let f = c.in-Some.ensures.steps in
    let i = c.loop-field.invariant in
    elim c.if-field-eq-SOURCE.branch [
      | then-field-eq-SOURCE w ↦
          (rw (w.out-is, w.k-is) (built_more _ _ _ _ i.0 _ f.tag_is (λ z. omega (arith, f.tag_below, z)) f.behind_is w.if-field-eq-SOURCE.true (w.hash_on.ensures.0 ∙ ap hash f.body_is) _ i.1 w.link.ensures), omega (arith, i.1, f.sizes))
      | else-field-eq-SOURCE w ↦
          (rw (w.out-is, w.k-is) (built_past _ _ _ _ i.0 _ f.tag_is (λ z. omega (arith, f.tag_below, z)) f.behind_is w.if-field-eq-SOURCE.false), omega (arith, i.1, f.sizes))
    ]

pub returns : goal.returns
returns c = built_all _ _ _ _ c.loop-field.invariant.0 c.in-None.ensures.steps.ended
