-- `outs::templates::check_new_body` meets its contract: the length, the kinds and the strings in turn. Assumes nothing.
use native.Mathlib.Omega.{arith}
use Rattle.outs.proofs.TemplateLaws.{new_short, new_long, new_kinds, new_strings}
use Rattle.outs.proofs.templates.check_new_body.Goals as goal

pub returns-in_default : goal.returns-in_default
returns-in_default c = new_short c.args.w.now c.in_default.len_below

pub returns-in_default-split_at_checked-2 : goal.returns-in_default-split_at_checked-2
returns-in_default-split_at_checked-2 c = new_long c.args.w.now c.in-len6-up.len_at_least c.from-count.result (omega arith) (rw c.in_default-split_at_checked.is at c.split_at_checked.ensures.cases)

pub returns-in_default-split_at_checked : goal.returns-in_default-split_at_checked
returns-in_default-split_at_checked c = new_kinds c.args.w.now c.in-len6-up.len_at_least c.from-count.result (omega arith) c.in-Some.ensures.cases c.are_kinds.ensures c.if-are_kinds.false

pub returns-in-Some : goal.returns-in-Some
returns-in-Some c = new_strings c.args.w.now c.in-len6-up.len_at_least c.from-count.result (omega arith) c.in-Some.ensures.cases c.are_kinds.ensures c.if-are_kinds.true c.check_strings.ensures
