-- `sums::reader::sum_in` meets its contract, one law for each turn of its loop. Assumes nothing.
use mathlib.Core.Path.{refl, sym, ◌∙◌, ap, subst}
use native.Mathlib.Omega.{arith}
use Prim.Native.Nat.{◌+◌, ◌-◌}
use Rattle.sums.specs.Choice.{digit}
use Rattle.sums.specs.Small.{times_by, state_of}
use Rattle.sums.specs.declared.reader.Mode.{Mode}
use Rattle.sums.specs.declared.reader.Before.TheVariants.{NoSum}
use Rattle.sums.proofs.Packs.{before_read, factor_read}
use Rattle.sums.proofs.Loop.{Going, begins, finishes, unfinished, too_high, too_high_alone, pushes, opens_alone, closes_nothing, closes_low, closes_lower, closes, closes_alone}
use Rattle.sums.proofs.Turns.{digit_on, digits_done, digits_over, zero_on, opening, first_on, no_operand, plus_on, minus_on, times_on, closing, no_operator, space_on}
use Rattle.sums.proofs.reader.sum_in.Goals as goal
use Rattle.sums.proofs.reader.sum_in.Goals.{else-loop-i-then-is_ascii_digit-test, then-loop-i-then-is_ascii_digit-test+then-not-is_ascii_digit}

pub loop-i-init : goal.loop-i-init
unfolding state_of
loop-i-init c = begins _ _

pub loop-i-preserved-then-c-eq32 : goal.loop-i-preserved-then-c-eq32
loop-i-preserved-then-c-eq32 c =
    let l = c.loop-i in
    space_on l.before l.factor l.y l.mode l.invariant c.loop-i-test.true c.if-c-eq32.true

pub loop-i-then-is_ascii_digit-init : goal.loop-i-then-is_ascii_digit-init
unfolding digit
loop-i-then-is_ascii_digit-init c =
    let l = c.loop-i in
    let g = subst (λ (m : Mode). Going c.args.text.now l.stack l.top l.i (state_of m l.before l.factor l.y)) c.in-Awaits.is l.invariant in
    (first_on l.before l.factor l.y g c.loop-i-test.true (λ e. omega arith) (λ e. omega arith) (sym c.is_ascii_digit.ensures.value ∙ c.if-is_ascii_digit.true) c.from-n.ensures, omega arith)

pub loop-i-then-is_ascii_digit-preserved : goal.loop-i-then-is_ascii_digit-preserved
unfolding digit
loop-i-then-is_ascii_digit-preserved c =
    let l = c.loop-i in
    let k = c.loop-i-then-is_ascii_digit in
    (digit_on k.n l.before l.factor k.invariant.0 c.loop-i-then-is_ascii_digit-test.true (sym c.is_ascii_digit-in-loop-i-then-is_ascii_digit.ensures.value ∙ c.if-not-is_ascii_digit.false) c.grow-n.ensures, omega (arith, k.invariant.1))

pub loop-i-preserved-in-48 : goal.loop-i-preserved-in-48
loop-i-preserved-in-48 c =
    let l = c.loop-i in
    let g = subst (λ (m : Mode). Going c.args.text.now l.stack l.top l.i (state_of m l.before l.factor l.y)) c.in-Awaits.is l.invariant in
    zero_on l.before l.factor l.y g c.loop-i-test.true c.in-48.is (c.product-y.ensures ∙ ap (times_by l.factor) c.bounded.ensures)

pub returns-then-top-ge-ROOM : goal.returns-then-top-ge-ROOM
returns-then-top-ge-ROOM c =
    let l = c.loop-i in
    let g = subst (λ (m : Mode). Going c.args.text.now l.stack l.top l.i (state_of m l.before l.factor l.y)) c.in-Awaits.is l.invariant in
    too_high_alone g c.loop-i-test.true (opening l.before l.factor l.y g c.loop-i-test.true c.in-40.is) (rw (c.in-NoSum-None.is-0, c.in-NoSum-None.is-1) refl) c.if-top-ge-ROOM.true c.requires

pub loop-i-preserved-in-NoSum-None : goal.loop-i-preserved-in-NoSum-None
unfolding state_of
loop-i-preserved-in-NoSum-None c =
    let l = c.loop-i in
    let g = subst (λ (m : Mode). Going c.args.text.now l.stack l.top l.i (state_of m l.before l.factor l.y)) c.in-Awaits.is l.invariant in
    let o = opens_alone g c.loop-i-test.true (opening l.before l.factor l.y g c.loop-i-test.true c.in-40.is) (rw (c.in-NoSum-None.is-0, c.in-NoSum-None.is-1) refl) (omega arith) c.if-top-ge-ROOM.false in
    rw (c.in-Awaits.is, c.in-NoSum-None.is-0, c.in-NoSum-None.is-1) o

pub returns-then-last-ge-ROOM : goal.returns-then-last-ge-ROOM
returns-then-last-ge-ROOM c =
    let l = c.loop-i in
    let g = subst (λ (m : Mode). Going c.args.text.now l.stack l.top l.i (state_of m l.before l.factor l.y)) c.in-Awaits.is l.invariant in
    too_high g c.loop-i-test.true (opening l.before l.factor l.y g c.loop-i-test.true c.in-40.is) refl c.before_tag-b.ensures.0 c.factor_tag-f.ensures.0 c.words_of.ensures.0 c.words_of-in-40.ensures.0 c.if-last-ge-ROOM.true c.requires

pub loop-i-preserved-in-40 : goal.loop-i-preserved-in-40
unfolding state_of
loop-i-preserved-in-40 c =
    let l = c.loop-i in
    let g = subst (λ (m : Mode). Going c.args.text.now l.stack l.top l.i (state_of m l.before l.factor l.y)) c.in-Awaits.is l.invariant in
    let b = c.before_tag-b.ensures.0 in
    let f = c.factor_tag-f.ensures.0 in
    rw (c.in-Awaits.is) (pushes g c.loop-i-test.true (opening l.before l.factor l.y g c.loop-i-test.true c.in-40.is) refl b f c.words_of.ensures.0 c.words_of-in-40.ensures.0 _ _ (before_read b c.before_size.ensures) (factor_read f c.factor_size.ensures) (omega arith) c.if-last-ge-ROOM.false)

pub loop-i-preserved-in_default : goal.loop-i-preserved-in_default
unfolding digit state_of
loop-i-preserved-in_default c =
    let l = c.loop-i in
    let k = c.loop-i-then-is_ascii_digit in
    let q = c.product-y-in_default.ensures ∙ ap (times_by l.factor) c.bounded-in_default.ensures in
    elim c.loop-i-then-is_ascii_digit-test.branch [
      | else-loop-i-then-is_ascii_digit-test w ↦ digits_over k.n l.before l.factor k.invariant.0 (omega (arith, k.invariant.0.within, w.loop-i-then-is_ascii_digit-test.false)) q
      | then-loop-i-then-is_ascii_digit-test+then-not-is_ascii_digit w ↦ digits_done k.n l.before l.factor k.invariant.0 w.loop-i-then-is_ascii_digit-test.true (sym w.is_ascii_digit-in-loop-i-then-is_ascii_digit.ensures.value ∙ w.if-not-is_ascii_digit.true) q
    ]

pub returns-in_default-2 : goal.returns-in_default-2
unfolding digit
returns-in_default-2 c =
    let l = c.loop-i in
    let g = subst (λ (m : Mode). Going c.args.text.now l.stack l.top l.i (state_of m l.before l.factor l.y)) c.in-Awaits.is l.invariant in
    no_operand l.before l.factor l.y g c.loop-i-test.true (λ e. omega arith) (λ e. omega arith) (sym c.if-is_ascii_digit.ensures.value) (λ e. omega arith)

pub loop-i-preserved-in-43 : goal.loop-i-preserved-in-43
loop-i-preserved-in-43 c =
    let l = c.loop-i in
    let g = subst (λ (m : Mode). Going c.args.text.now l.stack l.top l.i (state_of m l.before l.factor l.y)) c.in-Behind.is l.invariant in
    plus_on l.before l.factor l.y g c.loop-i-test.true c.in-43.is c.total.ensures

pub loop-i-preserved-in-45 : goal.loop-i-preserved-in-45
loop-i-preserved-in-45 c =
    let l = c.loop-i in
    let g = subst (λ (m : Mode). Going c.args.text.now l.stack l.top l.i (state_of m l.before l.factor l.y)) c.in-Behind.is l.invariant in
    minus_on l.before l.factor l.y g c.loop-i-test.true c.in-45.is c.total-in-45.ensures

pub loop-i-preserved-in-42 : goal.loop-i-preserved-in-42
loop-i-preserved-in-42 c =
    let l = c.loop-i in
    let g = subst (λ (m : Mode). Going c.args.text.now l.stack l.top l.i (state_of m l.before l.factor l.y)) c.in-Behind.is l.invariant in
    times_on l.before l.factor l.y g c.loop-i-test.true c.in-42.is

pub returns-then-top-eq0 : goal.returns-then-top-eq0
returns-then-top-eq0 c =
    let l = c.loop-i in
    let g = subst (λ (m : Mode). Going c.args.text.now l.stack l.top l.i (state_of m l.before l.factor l.y)) c.in-Behind.is l.invariant in
    closes_nothing g c.loop-i-test.true (closing l.before l.factor l.y g c.loop-i-test.true c.in-41.is refl) refl c.if-top-eq0.true

pub loop-i-preserved-then-tag-eq0 : goal.loop-i-preserved-then-tag-eq0
unfolding state_of
loop-i-preserved-then-tag-eq0 c =
    let l = c.loop-i in
    let g = subst (λ (m : Mode). Going c.args.text.now l.stack l.top l.i (state_of m l.before l.factor l.y)) c.in-Behind.is l.invariant in
    subst (λ (m : Mode). Going c.args.text.now l.stack (l.top - 1) (l.i + 1) (state_of m NoSum l.factor c.total-v.result)) (sym c.in-Behind.is) (closes_alone g c.if-top-eq0.false refl c.if-tag-eq0.true c.loop-i-test.true (closing l.before l.factor l.y g c.loop-i-test.true c.in-41.is c.total-v.ensures) refl)

pub overflow_sub-at-in-41 : goal.overflow_sub-at-in-41
overflow_sub-at-in-41 c =
    let l = c.loop-i in
    closes_low l.invariant c.if-top-eq0.false refl c.words_of-in-41.ensures.0

pub overflow_sub-low : goal.overflow_sub-low
overflow_sub-low c =
    let l = c.loop-i in
    closes_lower l.invariant c.if-top-eq0.false refl c.words_of-in-41.ensures.0 c.words_of-in-41-2.ensures.0

pub loop-i-preserved : goal.loop-i-preserved
unfolding state_of
loop-i-preserved c =
    let l = c.loop-i in
    let g = subst (λ (m : Mode). Going c.args.text.now l.stack l.top l.i (state_of m l.before l.factor l.y)) c.in-Behind.is l.invariant in
    subst (λ (m : Mode). Going c.args.text.now l.stack (l.top - 1 - c.words_of-in-41.result - c.words_of-in-41-2.result) (l.i + 1) (state_of m c.before_of-before.result l.factor c.product-y-in-41.result)) (sym c.in-Behind.is) (closes g c.if-top-eq0.false refl c.words_of-in-41.ensures.0 c.words_of-in-41-2.ensures.0 c.loop-i-test.true (closing l.before l.factor l.y g c.loop-i-test.true c.in-41.is c.total-v.ensures) refl c.before_of-before.ensures c.factor_of.ensures c.product-y-in-41.ensures)

pub returns-in_default-c : goal.returns-in_default-c
returns-in_default-c c =
    let l = c.loop-i in
    let g = subst (λ (m : Mode). Going c.args.text.now l.stack l.top l.i (state_of m l.before l.factor l.y)) c.in-Behind.is l.invariant in
    no_operator l.before l.factor l.y g c.loop-i-test.true (λ e. omega arith) (λ e. omega arith) (λ e. omega arith) (λ e. omega arith) (λ e. omega arith)

pub returns-then-top-eq0-2 : goal.returns-then-top-eq0-2
returns-then-top-eq0-2 c =
    let l = c.loop-i in
    finishes l.invariant (c.end_of.ensures l.factor) (omega (arith, l.invariant.within)) (omega arith)

pub returns-else-top-eq0-2 : goal.returns-else-top-eq0-2
returns-else-top-eq0-2 c =
    let l = c.loop-i in
    unfinished l.invariant (omega (arith, l.invariant.within)) (λ z. omega arith)
