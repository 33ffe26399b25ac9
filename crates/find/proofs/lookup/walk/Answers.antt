-- `find::lookup::walk` meets its contract: what is left is walked from what was met so far. Assumes nothing.
use mathlib.Core.Path.{refl}
use native.Mathlib.Omega.{arith}
use Rattle.outs.proofs.Parts.{four_first}
use Rattle.find.proofs.RecordLaws.{walk_begins, walk_ends, walk_ends_there, has_four, turn_not_asked, turn_met_before, turn_first_met}
use Rattle.find.proofs.lookup.walk.Goals as goal
use Rattle.find.proofs.lookup.walk.Goals.{in-Some-place_of+then-places-i, in-Some-place_of+else-places-i, in_default-place_of}

pub loop-waiting-init : goal.loop-waiting-init
loop-waiting-init c = walk_begins _ _ c.requires.0

pub bounds-b-0 : goal.bounds-b-0
bounds-b-0 c = omega (arith, has_four c.loop-waiting.invariant c.in-Some.ensures.steps)

pub bounds-b-1 : goal.bounds-b-1
bounds-b-1 c = omega (arith, has_four c.loop-waiting.invariant c.in-Some.ensures.steps)

pub bounds-b-2 : goal.bounds-b-2
bounds-b-2 c = omega (arith, has_four c.loop-waiting.invariant c.in-Some.ensures.steps)

pub bounds-b-3 : goal.bounds-b-3
bounds-b-3 c = omega (arith, has_four c.loop-waiting.invariant c.in-Some.ensures.steps)

pub loop-waiting-preserved : goal.loop-waiting-preserved
loop-waiting-preserved c =
    let a = c.loop-waiting.invariant in
    let f = c.in-Some.ensures.steps in
    let n = four_first _ (has_four a f) c.from_be_bytes-number.ensures in
    elim c.match-place_of.branch [
      | in-Some-place_of+then-places-i w ↦
          (let i = w.in-Some-place_of.ensures in
          rw (w.places-is, w.waiting-is) (turn_first_met a f c.loop-waiting-test.true n i.1 i.0 w.if-places-i.true))
      | in-Some-place_of+else-places-i w ↦
          (let i = w.in-Some-place_of.ensures in
          rw (w.places-is, w.waiting-is) (turn_met_before a f c.loop-waiting-test.true n i.1 i.0 w.if-places-i.false))
      | in_default-place_of w ↦ rw (w.places-is, w.waiting-is) (turn_not_asked a f c.loop-waiting-test.true n refl w.in_default-place_of.ensures)
    ]

pub returns-after-loop-waiting : goal.returns-after-loop-waiting
returns-after-loop-waiting c = walk_ends c.loop-waiting.invariant c.loop-waiting-test.false

pub returns-in_default : goal.returns-in_default
returns-in_default c = walk_ends_there c.loop-waiting.invariant c.in_default.ensures.steps
