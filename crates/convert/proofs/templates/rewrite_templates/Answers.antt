-- `templates::rewrite_templates` meets its contract: each turn keeps `Keeps`. Assumes nothing.
use native.Mathlib.Omega.{arith}
use Rattle.field.proofs.NumberLaws.{all_from}
use Rattle.convert.proofs.TemplateLaws.{keeps_begins, fits_body, keeps_on, keeps_stops, keeps_end}
use Rattle.convert.proofs.templates.rewrite_templates.Goals as goal

pub loop-record-init : goal.loop-record-init
loop-record-init c = rw c.into_iter-record-iterator.ensures.into_iter_gives (keeps_begins _ _ _ (all_from _ (λ i. (c.type_inv.s i).fits)) c.requires (omega (arith, c.well_formed.0.1)))

pub rewrite_record-requires : goal.rewrite_record-requires
rewrite_record-requires c = let f = c.in-Some.ensures.steps in fits_body c.loop-record.invariant f.tag_is (λ z. omega (arith, f.tag_below, z)) f.body_is

pub returns-in_err-w : goal.returns-in_err-w
returns-in_err-w c = let f = c.in-Some.ensures.steps in rw c.from_residual.ensures (keeps_stops c.loop-record.invariant f.tag_is (λ z. omega (arith, f.tag_below, z)) f.body_is c.in_err-w.ensures)

pub loop-record-preserved : goal.loop-record-preserved
loop-record-preserved c = let f = c.in-Some.ensures.steps in keeps_on c.loop-record.invariant f.tag_is (λ z. omega (arith, f.tag_below, z)) f.body_is c.in_ok-w.ensures f.behind_is

pub returns : goal.returns
returns c = keeps_end c.loop-record.invariant c.in-None.ensures.steps.ended
