-- `text::lines::read_line` meets its contract: behind the end no byte is left. Assumes nothing.
use Rattle.text.proofs.LineLaws.{line_none}
use Rattle.text.proofs.lines.read_line.Goals as goal

pub returns-then-s-at : goal.returns-then-s-at
returns-then-s-at c = line_none c.args.s.now c.args.at c.if-s-at.true
