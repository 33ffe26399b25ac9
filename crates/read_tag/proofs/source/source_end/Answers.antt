-- `read_tag::source::source_end` meets its contract. Assumes nothing.
use native.Mathlib.Omega.{arith}
use mathlib.Core.Bool.{not}
use mathlib.Core.Path.{sym, ap, ◌∙◌}
use Rattle.read_tag.proofs.RunLaws.{ran}
use Rattle.read_tag.proofs.SourceLaws.{sourcing_byte, sourcing_up, sourcing_down, sourcing_quotes, source_found, source_barred, source_open, source_broken, source_out}
use Rattle.read_tag.proofs.source.source_end.Goals as goal
use Rattle.read_tag.proofs.source.source_end.Goals.{then-is_source, else-is_source+in-123, else-is_source+in-125-2, else-is_source+in_default-2+in_ok-get-in_default-2+else-branch-c}

pub returns-in-125 : goal.returns-in-125
returns-in-125 c = source_found _ _ _ _ c.loop-k.invariant c.loop-k-test.true c.in-125.is c.if-depth-eq0.true

pub returns-in_err-get-in_default-2 : goal.returns-in_err-get-in_default-2
returns-in_err-get-in_default-2 c =
    let r = ran _ _ _ (omega arith) c.run_end-e.ensures.place in
    rw c.from_residual.ensures (source_open _ _ _ _ _ _ c.loop-k.invariant c.loop-k-test.true c.is_quote.ensures (ap not c.if-is_quote.true) r c.in_err-get-in_default-2.ensures.lookup.3)

pub returns-then-branch-c : goal.returns-then-branch-c
returns-then-branch-c c =
    let r = ran _ _ _ (omega arith) c.run_end-e.ensures.place in
    source_broken _ _ _ _ _ _ c.loop-k.invariant c.loop-k-test.true c.is_quote.ensures (ap not c.if-is_quote.true) r c.in_ok-get-in_default-2.ensures.lookup.3.0 (λ e. c.if-branch-c.true (c.in_ok-get-in_default-2.ensures.lookup.3.1 0 ∙ e))

pub returns-in_default-3 : goal.returns-in_default-3
returns-in_default-3 c = source_barred _ _ _ _ _ _ c.loop-k.invariant c.loop-k-test.true c.is_source.ensures c.if-is_source.false (λ e. omega arith) (λ e. omega arith) c.is_quote.ensures (ap not c.if-is_quote.false)

pub loop-k-preserved : goal.loop-k-preserved
loop-k-preserved c =
    elim c.if-is_source.branch [
      | then-is_source w ↦ rw (w.k-is, w.depth-is) (sourcing_byte _ _ _ _ _ c.loop-k.invariant c.loop-k-test.true c.is_source.ensures w.if-is_source.true)
      | else-is_source+in-123 w ↦ rw (w.k-is, w.depth-is) (sourcing_up _ _ _ _ c.loop-k.invariant c.loop-k-test.true w.in-123.is)
      | else-is_source+in-125-2 w ↦ rw (w.k-is, w.depth-is) (sourcing_down _ _ _ _ c.loop-k.invariant c.loop-k-test.true w.in-125.is w.if-depth-eq0.false)
      | else-is_source+in_default-2+in_ok-get-in_default-2+else-branch-c w ↦ rw (w.k-is, w.depth-is) (sourcing_quotes _ _ _ _ _ _ c.loop-k.invariant c.loop-k-test.true w.is_quote.ensures (ap not w.if-is_quote.true) (ran _ _ _ (omega arith) w.run_end-e.ensures.place) w.in_ok-get-in_default-2.ensures.lookup.3.0 (sym (w.in_ok-get-in_default-2.ensures.lookup.3.1 0) ∙ w.if-branch-c.false))
    ]

pub returns : goal.returns
returns c = source_out _ _ _ _ c.loop-k.invariant c.loop-k-test.false
