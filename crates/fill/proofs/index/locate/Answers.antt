-- `fill::index::locate` meets its contract: of each number is known what the records so far say. Assumes nothing.
use native.Mathlib.Omega.{arith}
use Rattle.std.proofs.Common.{rules}
use Rattle.field.proofs.NumberLaws.{all_from}
use Rattle.find.proofs.RecordLaws.{number_four}
use Rattle.fill.proofs.Places.{locating_begins, locating_six, locating_found, locating_passed, locating_ends, twice_none}
use Rattle.fill.proofs.index.locate.Goals as goal

pub loop-record-init : goal.loop-record-init
loop-record-init c = locating_begins _ _ c.requires.0 c.requires.2 (c.fill.ensures.after (λ y e. search rules))

pub bounds-b-0 : goal.bounds-b-0
bounds-b-0 c = omega (arith, locating_six c.loop-record.invariant c.in-Some.ensures.steps)

pub bounds-b-1 : goal.bounds-b-1
bounds-b-1 c = omega (arith, locating_six c.loop-record.invariant c.in-Some.ensures.steps)

pub bounds-b-2 : goal.bounds-b-2
bounds-b-2 c = omega (arith, locating_six c.loop-record.invariant c.in-Some.ensures.steps)

pub bounds-b-3 : goal.bounds-b-3
bounds-b-3 c = omega (arith, locating_six c.loop-record.invariant c.in-Some.ensures.steps)

pub returns-then-places-i : goal.returns-then-places-i
returns-then-places-i c =
    let a = c.loop-record.invariant in
    let f = c.in-Some.ensures.steps in
    let i = c.in-Some-first_near.ensures in
    twice_none a f (number_four _ (omega (arith, locating_six a f)) c.from_be_bytes-number.ensures) i.0 i.1 c.if-places-i.true

pub loop-record-preserved-in-Some-first_near : goal.loop-record-preserved-in-Some-first_near
loop-record-preserved-in-Some-first_near c =
    let a = c.loop-record.invariant in
    let f = c.in-Some.ensures.steps in
    let i = c.in-Some-first_near.ensures in
    locating_found a f (number_four _ (omega (arith, locating_six a f)) c.from_be_bytes-number.ensures) i.0 i.1 (all_from _ (λ k. (c.type_inv.templates k).fits)) (omega arith) c.if-places-i.false

pub loop-record-preserved : goal.loop-record-preserved
loop-record-preserved c =
    let a = c.loop-record.invariant in
    let f = c.in-Some.ensures.steps in
    locating_passed a f (number_four _ (omega (arith, locating_six a f)) c.from_be_bytes-number.ensures) c.in_default-first_near.ensures

pub returns-in_default : goal.returns-in_default
returns-in_default c = locating_ends c.loop-record.invariant c.in_default.ensures.steps
