-- `printing::front::front_len` meets its contract: the tags that `inside` tests, in its order. Assumes nothing.
use mathlib.Core.Path.{sym, ◌∙◌}
use native.Mathlib.Omega.{arith}
use lib.Dec.{leb-zero}
use borrow.Author.Tests.{ne_eqb}
use Rattle.field.specs.Row.{inside}
use Rattle.printing.proofs.FrontLaws.{min_is}
use Rattle.printing.proofs.front.front_len.Goals as goal

pub returns-in-144 : goal.returns-in-144
unfolding inside
returns-in-144 c = rw c.in-144.is (c.min.ensures ∙ min_is _ 4)

pub returns-in-132 : goal.returns-in-132
unfolding inside
returns-in-132 c = rw c.in-132.is c.counted_len.ensures

pub returns-in-128 : goal.returns-in-128
unfolding inside
returns-in-128 c = rw c.in-128.is (c.min-in-128.ensures ∙ min_is _ 2)

pub returns-in_default : goal.returns-in_default
unfolding inside
returns-in_default c = let t = c.args.tag in rw (ne_eqb t 0x90 (omega arith), ne_eqb t 0x84 (omega arith), ne_eqb t 0x80 (omega arith), sym c.holds_fields.ensures ∙ c.if-holds_fields.true, leb-zero)

pub returns-in_default-2 : goal.returns-in_default-2
unfolding inside
returns-in_default-2 c = let t = c.args.tag in rw (ne_eqb t 0x90 (omega arith), ne_eqb t 0x84 (omega arith), ne_eqb t 0x80 (omega arith), sym c.holds_fields.ensures ∙ c.if-holds_fields.false)
