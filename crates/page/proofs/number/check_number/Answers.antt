-- `page::number::check_number` meets its contract. Assumes nothing.
use mathlib.Core.Path.{◌∙◌}
use borrow.Author.Tests.{lt-leb, le-leb}
use Rattle.page.proofs.Steps.{exit_at, last_at}
use Rattle.page.proofs.NumberLaws.{whole_then, scaled_then}
use Rattle.page.proofs.number.check_number.Goals as goal
use Rattle.page.proofs.number.check_number.Goals.{then-number_in-le-MAX_DIGITS, else-number_in-le-MAX_DIGITS}

pub returns-in_err-refuse_unless : goal.returns-in_err-refuse_unless
returns-in_err-refuse_unless c = exit_at (scaled_then _ _ c.if-has_places.ensures) c.refuse_unless.ensures c.in_err-refuse_unless.was c.from_residual.ensures

pub returns-then-has_places : goal.returns-then-has_places
returns-then-has_places c = last_at (scaled_then _ _ c.if-has_places.ensures) c.refuse_unless.ensures c.in_ok-refuse_unless.was
    (elim c.if-number_in-le-MAX_DIGITS.branch [
      | then-number_in-le-MAX_DIGITS w ↦ c.refuse_unless-then-has_places.ensures ∙ rw (w.fits-is, ← c.number_in.ensures, le-leb _ _ w.if-number_in-le-MAX_DIGITS.true, ← w.places_in.ensures, w.from.ensures)
      | else-number_in-le-MAX_DIGITS w ↦ c.refuse_unless-then-has_places.ensures ∙ rw (w.fits-is, ← c.number_in.ensures, lt-leb _ _ w.if-number_in-le-MAX_DIGITS.false)
    ])

pub returns-in_err-refuse_unless-2 : goal.returns-in_err-refuse_unless-2
returns-in_err-refuse_unless-2 c = exit_at (whole_then _ _ c.if-has_places.ensures) c.refuse_unless-2.ensures c.in_err-refuse_unless-2.was c.from_residual-in_err-refuse_unless-2.ensures

pub returns : goal.returns
returns c = last_at (whole_then _ _ c.if-has_places.ensures) c.refuse_unless-2.ensures c.in_ok-refuse_unless-2.was (rw (← c.number_in-2.ensures) c.refuse_unless-3.ensures)
