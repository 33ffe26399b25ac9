-- `catalogue_calls::numbers::next_call` meets its contract: each field in front is a call, is entered or is passed over. Assumes nothing.
use native.Mathlib.Omega.{arith}
use Rattle.catalogue_calls.proofs.CallWalk.{begins, calls_end, call_found, enters, passes}
use Rattle.catalogue_calls.proofs.numbers.next_call.Goals as goal

pub loop-h-init : goal.loop-h-init
loop-h-init c = begins c.args.s.now

pub returns-in-Some-eq4 : goal.returns-in-Some-eq4
returns-in-Some-eq4 c = let g = c.loop-h.invariant in let h = c.read_header.ensures in call_found g.walked g.rest_is h.0 h.1 c.in-Some.is c.in-Some-eq4.ensures (omega arith)

pub loop-h-preserved-in-Some-front_of : goal.loop-h-preserved-in-Some-front_of
loop-h-preserved-in-Some-front_of c = let g = c.loop-h.invariant in let h = c.read_header.ensures in enters g.walked g.rest_is h.0 h.1 c.in-Some.is c.in-Some-front_of.ensures (λ z. omega (arith, z))

pub loop-h-preserved : goal.loop-h-preserved
loop-h-preserved c = let g = c.loop-h.invariant in let h = c.read_header.ensures in passes g.walked g.rest_is h.0 h.1 c.in-Some.is c.in-None.ensures

pub returns : goal.returns
returns c = let g = c.loop-h.invariant in calls_end g.walked g.rest_is c.read_header.ensures.0 c.in_default.is
