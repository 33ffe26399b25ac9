-- `differ::none_stands_in` meets its contract: each name behind is looked up among the sorted ones. Assumes nothing.
use mathlib.Core.Path.{sym, ◌∙◌}
use Rattle.catalogue_calls.proofs.FrameLaws.{names_next, names_end}
use Rattle.catalogue_calls.proofs.DifferLaws.{looked_up, none_stopped, none_passed, none_ended}
use Rattle.catalogue_calls.proofs.differ.none_stands_in.Goals as goal

pub returns-then-is_ok : goal.returns-then-is_ok
returns-then-is_ok c =
    let l = looked_up c.args.batch.now c.requires _ _ c.binary_search.ensures.position in
    sym (c.loop-p.invariant ∙ none_stopped (names_next c.in-Some.ensures.steps) c.args.batch.now (sym l ∙ sym c.if-is_ok.ensures.value))

pub loop-p-preserved : goal.loop-p-preserved
loop-p-preserved c =
    let l = looked_up c.args.batch.now c.requires _ _ c.binary_search.ensures.position in
    c.loop-p.invariant ∙ none_passed (names_next c.in-Some.ensures.steps) c.args.batch.now (sym l ∙ sym c.if-is_ok.ensures.value)

pub returns : goal.returns
returns c = sym (c.loop-p.invariant ∙ none_ended (names_end _ c.in-None.ensures.steps.0) c.args.batch.now)
