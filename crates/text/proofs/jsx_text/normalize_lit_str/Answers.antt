-- `text::jsx_text::normalize_lit_str` meets its contract. The loop's invariant: what the lines read so far give is written, and the rest of the
-- string comes from the lines that are left. Assumes nothing.
use native.Mathlib.Omega.{arith}
use mathlib.Core.Path.{◌∙◌}
use Rattle.text.specs.Text.{trimmed}
use Rattle.text.proofs.LineLaws.{line_read, none_read, read_front}
use Rattle.text.proofs.TextLaws.{spacing_start, spacing_room, spacing_step, spacing_end}
use Rattle.text.proofs.jsx_text.normalize_lit_str.Goals as goal

pub loop-line-init : goal.loop-line-init
loop-line-init c = let e = c.new-line-items.ensures in rw c.into_iter-line-iterator.ensures.into_iter_gives (e.0, (omega (arith, e.1), rw e.1 (spacing_start _ _ _)))

pub put_spaced_line-a-requires : goal.put_spaced_line-a-requires
unfolding trimmed
put_spaced_line-a-requires c = let s = c.args.s.now in let i = c.loop-line.line-iterator.place in let next = c.next.new.self.place in
    let k = line_read {l = c.in-Some.line} s i next c.loop-line.invariant.0 c.in-Some.ensures.steps.1 in
    rw k.before_is (spacing_room k.end next c.trim_start.result.now c.loop-line.invariant.1.1 k.cut (read_front k c.trim_start.ensures) c.requires)

pub loop-line-preserved : goal.loop-line-preserved
unfolding trimmed
loop-line-preserved c = let s = c.args.s.now in let i = c.loop-line.line-iterator.place in let next = c.next.new.self.place in
    let k = line_read {l = c.in-Some.line} s i next c.loop-line.invariant.0 c.in-Some.ensures.steps.1 in
    (c.in-Some.ensures.steps.0 ∙ c.loop-line.invariant.0, (k.cut.within, spacing_step k.end next c.trim_start.result.now c.loop-line.invariant.1.1 k.cut (read_front k c.trim_start.ensures) (rw k.before_is at c.put_spaced_line-a.ensures)))

pub returns : goal.returns
returns c = let s = c.args.s.now in
    spacing_end (none_read s c.loop-line.line-iterator.place c.next.new.self.place c.loop-line.invariant.0 c.in-None.ensures.steps.1) c.loop-line.invariant.1.1
