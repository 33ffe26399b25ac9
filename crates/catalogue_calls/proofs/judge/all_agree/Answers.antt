-- `judge::all_agree` meets its contract: the kinds of the records before the next one agree. Assumes nothing.
use mathlib.Core.Path.{sym, ◌∙◌}
use Rattle.field.proofs.NumberLaws.{all_from}
use Rattle.catalogue_calls.proofs.JudgeLaws.{agreeing_begins, body_fits, agreeing_on, agreeing_stops, agreeing_ends}
use Rattle.catalogue_calls.proofs.judge.all_agree.Goals as goal

pub loop-record-init : goal.loop-record-init
loop-record-init c = rw c.into_iter-record-iterator.ensures.into_iter_gives (agreeing_begins _ (all_from _ (λ i. (c.type_inv.templates i).fits)) c.requires)

pub agrees-requires : goal.agrees-requires
agrees-requires c = body_fits c.loop-record.invariant c.in-Some.ensures.steps

pub returns-then-not-agrees : goal.returns-then-not-agrees
returns-then-not-agrees c = sym (agreeing_stops c.loop-record.invariant c.in-Some.ensures.steps (sym c.agrees.ensures ∙ c.if-not-agrees.true))

pub loop-record-preserved : goal.loop-record-preserved
loop-record-preserved c = agreeing_on c.loop-record.invariant c.in-Some.ensures.steps (sym c.agrees.ensures ∙ c.if-not-agrees.false)

pub returns : goal.returns
returns c = sym (agreeing_ends c.loop-record.invariant c.in-None.ensures.steps.ended)
