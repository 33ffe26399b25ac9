-- `read_tag::known::read_digits` meets its contract. Assumes nothing.
use native.Mathlib.Omega.{arith}
use mathlib.Core.Bool.{not}
use mathlib.Core.Path.{◌≡◌, ap}
use lib.ListN.{length}
use Rattle.grammar.specs.Signs.{digit}
use Rattle.read_tag.proofs.DigitLaws.{counting_none, counting_stops, counting_more, counting_on, counting_out}
use Rattle.read_tag.proofs.known.read_digits.Goals as goal

pub loop-count-init : goal.loop-count-init
loop-count-init c = counting_none _ _ c.requires

pub returns-then-not-is_ascii_digit : goal.returns-then-not-is_ascii_digit
unfolding digit
returns-then-not-is_ascii_digit c = counting_stops _ _ _ _ c.loop-count.invariant c.loop-count-test.true _ c.is_ascii_digit.ensures.value (ap not c.if-not-is_ascii_digit.true)

pub loop-count-preserved-then-value-gt-MAX_WHOLE : goal.loop-count-preserved-then-value-gt-MAX_WHOLE
unfolding digit
loop-count-preserved-then-value-gt-MAX_WHOLE c = counting_more _ _ _ _ c.loop-count.invariant c.loop-count-test.true _ c.is_ascii_digit.ensures.value (ap not c.if-not-is_ascii_digit.false) c.if-value-gt-MAX_WHOLE.true

pub loop-count-preserved : goal.loop-count-preserved
unfolding digit
loop-count-preserved c = rw c.from.ensures (counting_on _ _ _ _ c.loop-count.invariant c.loop-count-test.true _ c.is_ascii_digit.ensures.value (ap not c.if-not-is_ascii_digit.false) c.if-value-gt-MAX_WHOLE.false)

pub returns : goal.returns
returns c =
    let e : c.loop-count.count ≡ length c.args.s.now = omega arith in
    rw (← e) (counting_out _ _ _ _ c.loop-count.invariant c.loop-count-test.false)
