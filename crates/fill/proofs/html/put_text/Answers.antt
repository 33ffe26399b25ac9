-- `html::put_text` meets its contract: without a sign a text is its own escape. Assumes nothing.
use native.Mathlib.Omega.{arith}
use mathlib.Core.Path.{refl, sym, ap, ◌∙◌}
use mathlib.Core.Bool.{and-eq-true_iff}
use lib.Seq.{take_all}
use Rattle.field.proofs.PutLaws.{wrote_none, wrote_is, put_part}
use Rattle.text.specs.Escape.{escape_html}
use Rattle.text.proofs.RunLaws.{last_is}
use Rattle.text.proofs.WriteLaws.{wrote_more}
use Rattle.text.proofs.EscapeLaws.{escaped_sign}
use Rattle.fill.specs.Writing.{unmarked}
use Rattle.fill.proofs.TextLaws.{escape_unmarked, room_at}
use Rattle.fill.proofs.html.put_text.Goals as goal

pub returns-then-are_unmarked : goal.returns-then-are_unmarked
returns-then-are_unmarked c =
    let s = c.args.s.now in
    let p = (and-eq-true_iff _ _).0 c.if-are_unmarked.true in
    let l = last_is unmarked s 16 (omega (arith, c.if-s-ge16.true)) c.are_unmarked-then-s-ge16.ensures in
    let e = escape_unmarked s (omega (arith, c.if-s-ge16.true)) (omega (arith, c.if-s-ge32.false)) (sym c.are_unmarked.ensures ∙ p.0) (sym l ∙ p.1) in
    wrote_is (sym e) record { out_is = rw c.copy_ends.ensures (put_part _ _ _ (omega (arith, c.if-out-at.false, c.if-s-ge32.false))); end_is = refl }

pub put_blocks-requires : goal.put_blocks-requires
put_blocks-requires c = omega (arith, c.if-out-at.false, c.if-s-ge32.false)

pub put_each-requires : goal.put_each-requires
put_each-requires c = omega (arith, c.if-out-at.false, c.if-s-ge32.false)
