-- `text::jsx_text::jsx_text_to_str` meets its contract. Nothing stays of an indent. The loop's invariant: what the lines read so far give is
-- written, and the rest of the text comes from the lines that are left. Assumes nothing.
use native.Mathlib.Omega.{arith}
use mathlib.Core.Path.{sym, ◌∙◌}
use lib.ListN.{length}
use Rattle.field.proofs.PutLaws.{wrote_none, wrote_is}
use Rattle.text.proofs.LineLaws.{line_read, none_read, read_trimmed, read_empty}
use Rattle.text.proofs.WriteLaws.{empty_is}
use Rattle.text.proofs.TextLaws.{joining_start, joining_room, joining_step, joining_skip, joining_end}
use Rattle.text.proofs.IndentLaws.{indent_none}
use Rattle.text.proofs.jsx_text.jsx_text_to_str.Goals as goal

pub returns-then-is_indent : goal.returns-then-is_indent
returns-then-is_indent c = let args = c.args in let lf = sym c.starts_with_lf.ensures ∙ c.if-starts_with_lf.true in
    let indent = sym c.is_indent.ensures ∙ c.if-is_indent.true in
    wrote_is (sym (indent_none args.s.now args.escape args.last lf indent)) (wrote_none args.out.now args.at)

pub loop-line-init : goal.loop-line-init
loop-line-init c = let e = c.new-line-items.ensures in rw c.into_iter-line-iterator.ensures.into_iter_gives (e.0, (omega (arith, e.1), rw e.1 (joining_start _ _ _ _ _)))

pub put_kept_line-a-requires : goal.put_kept_line-a-requires
put_kept_line-a-requires c = let s = c.args.s.now in let i = c.loop-line.line-iterator.place in let next = c.next.new.self.place in
    let k = line_read {l = c.in-Some.line} s i next c.loop-line.invariant.0 c.in-Some.ensures.steps.1 in
    joining_room k.end next c.trimmed.result.now c.loop-line.invariant.1.1 k.cut (read_trimmed c.args.last k c.trimmed.ensures) c.requires

pub loop-line-preserved-then-not-is_empty : goal.loop-line-preserved-then-not-is_empty
loop-line-preserved-then-not-is_empty c = let s = c.args.s.now in let i = c.loop-line.line-iterator.place in let next = c.next.new.self.place in
    let k = line_read {l = c.in-Some.line} s i next c.loop-line.invariant.0 c.in-Some.ensures.steps.1 in
    (c.in-Some.ensures.steps.0 ∙ c.loop-line.invariant.0, (k.cut.within, joining_step k.end next c.trimmed.result.now c.loop-line.invariant.1.1 k.cut (read_trimmed c.args.last k c.trimmed.ensures) c.put_kept_line-a.ensures))

pub loop-line-preserved : goal.loop-line-preserved
loop-line-preserved c = let s = c.args.s.now in let i = c.loop-line.line-iterator.place in let next = c.next.new.self.place in
    let k = line_read {l = c.in-Some.line} s i next c.loop-line.invariant.0 c.in-Some.ensures.steps.1 in
    (c.in-Some.ensures.steps.0 ∙ c.loop-line.invariant.0, (k.cut.within, joining_skip k.end next c.loop-line.invariant.1.1 k.cut (read_empty k (empty_is (length c.in-Some.line.text.now) c.is_empty.ensures c.if-not-is_empty.false))))

pub returns : goal.returns
returns c = let s = c.args.s.now in
    joining_end (none_read s c.loop-line.line-iterator.place c.next.new.self.place c.loop-line.invariant.0 c.in-None.ensures.steps.1) c.loop-line.invariant.1.1
