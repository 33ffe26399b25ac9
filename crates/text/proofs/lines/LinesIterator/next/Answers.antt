-- `next` meets its contract: the line at the place, and the place goes on.
use native.Mathlib.Omega.{arith}
use Rattle.text.proofs.LineLaws.{Cut, line_cut}
use Rattle.text.proofs.lines.LinesIterator.next.Goals as goal
use Rattle.text.proofs.lines.LinesIterator.next.Goals.{After-line_at-line}

cut : (c : After-line_at-line) → Cut c.args.self.now.text.now c.args.self.now.place c.line_at-line.result.end c.line_at-line.result.next
cut c = line_cut c.args.self.now.text.now c.args.self.now.place (omega arith) c.line_at-line.ensures

pub slice_bounds-result-count : goal.slice_bounds-result-count
slice_bounds-result-count c = (cut (goal.at.slice_bounds-result-count c).After-line_at-line).from

pub slice_bounds-result-start : goal.slice_bounds-result-start
slice_bounds-result-start c = (cut (goal.at.slice_bounds-result-start c).After-line_at-line).from

pub slice_bounds-result-end : goal.slice_bounds-result-end
slice_bounds-result-end c = (cut (goal.at.slice_bounds-result-end c).After-line_at-line).to

pub returns-clause-goes : goal.returns-clause-goes
returns-clause-goes c = let k = cut (goal.at.returns-clause-goes c).After-line_at-line in record { on = λ _. (_, tt, omega (arith, k.on, k.within)); keeps = _; rests = _ }
