-- `text::lines::line_at` meets its contract: a line ends at the first LF, or at a CR in front of it, or with the text. Assumes nothing.
use native.Mathlib.Omega.{arith}
use Rattle.text.proofs.LineLaws.{line_empty, lf_behind, line_last, line_cr, line_no_cr}
use Rattle.text.proofs.lines.line_at.Goals as goal

pub returns-then-s-at-eq10 : goal.returns-then-s-at-eq10
returns-then-s-at-eq10 c = let args = c.args in line_empty args.s.now args.at (omega arith) c.if-s-at-eq10.true

pub returns-then-lf-s : goal.returns-then-lf-s
returns-then-lf-s c = let args = c.args in rw c.if-lf-s.true (line_last args.s.now args.at c.long_run_end-lf.result (omega arith) c.long_run_end-lf.ensures.place c.if-lf-s.true)

pub overflow_sub-lf : goal.overflow_sub-lf
overflow_sub-lf c = let args = c.args in omega (arith, lf_behind args.s.now args.at (omega arith) c.if-s-at-eq10.false c.long_run_end-lf.ensures.place)

pub overflow_sub-result : goal.overflow_sub-result
overflow_sub-result c = let args = c.args in omega (arith, lf_behind args.s.now args.at (omega arith) c.if-s-at-eq10.false c.long_run_end-lf.ensures.place)

pub returns-then-s-lf-eq13 : goal.returns-then-s-lf-eq13
returns-then-s-lf-eq13 c = let args = c.args in let b = lf_behind args.s.now args.at (omega arith) c.if-s-at-eq10.false c.long_run_end-lf.ensures.place in
    line_cr args.s.now args.at c.long_run_end-lf.result (omega arith) c.long_run_end-lf.ensures.place (omega arith) b.0 c.if-s-lf-eq13.true

pub returns-else-s-lf-eq13 : goal.returns-else-s-lf-eq13
returns-else-s-lf-eq13 c = let args = c.args in let b = lf_behind args.s.now args.at (omega arith) c.if-s-at-eq10.false c.long_run_end-lf.ensures.place in
    line_no_cr args.s.now args.at c.long_run_end-lf.result (omega arith) c.long_run_end-lf.ensures.place (omega arith) b.0 c.if-s-lf-eq13.false
