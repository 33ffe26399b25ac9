-- `text::jsx_text::put_text` meets its contract. Assumes nothing.
use mathlib.Core.Path.{◌≡◌}
use Rattle.field.proofs.PutLaws.{wrote_is}
use Rattle.text.specs.Escape.{escape_html}
use Rattle.text.specs.Text.{escape_if}
use Rattle.text.proofs.jsx_text.put_text.Goals as goal

pub put_escaped-requires : goal.put_escaped-requires
unfolding escape_if
put_escaped-requires c = let pre = c.requires in rw c.if-escape.true at pre

pub returns-then-escape : goal.returns-then-escape
unfolding escape_if
returns-then-escape c = let args = c.args in let s = args.s.now in
    let e : escape_html s ≡ escape_if args.escape s = rw c.if-escape.true in
    wrote_is e c.put_escaped.ensures

pub returns-else-escape : goal.returns-else-escape
unfolding escape_if
returns-else-escape c = let args = c.args in let s = args.s.now in
    let e : s ≡ escape_if args.escape s = rw c.if-escape.false in
    wrote_is e c.put_bytes.ensures
