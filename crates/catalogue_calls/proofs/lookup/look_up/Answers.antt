-- `lookup::look_up` meets its contract: page by page, until one has the name. Assumes nothing.
use mathlib.Core.Path.{refl}
use native.Mathlib.Omega.{arith}
use Rattle.catalogue_calls.proofs.LookLaws.{looking_begins, looking_on, looking_ends, looking_finds}
use Rattle.catalogue_calls.proofs.lookup.look_up.Goals as goal

pub loop-p-init : goal.loop-p-init
loop-p-init c = record { within = omega arith; looking = looking_begins c.args.catalogue.now c.args.name }

pub loop-p-preserved : goal.loop-p-preserved
loop-p-preserved c = record { within = omega (arith, c.loop-p.invariant.within, (c.in-Some.ensures).sizes); looking = looking_on c.loop-p.invariant.looking c.in-Some.ensures c.if-p-name.false }

pub overflow_sub-result-then-p-name : goal.overflow_sub-result-then-p-name
overflow_sub-result-then-p-name c = omega (arith, c.loop-p.invariant.within, (c.in-Some.ensures).sizes)

pub returns : goal.returns
returns c = looking_ends c.loop-p.invariant.looking c.in_default.ensures

pub returns-then-p-name : goal.returns-then-p-name
returns-then-p-name c = looking_finds c.loop-p.invariant.looking c.in-Some.ensures c.if-p-name.true refl refl c.count_of.ensures
