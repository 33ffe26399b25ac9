-- `html::put_string` meets its contract: nothing is written of an empty string, and what fits is put in its place. Assumes nothing.
use mathlib.Core.Path.{refl, sym}
use borrow.Author.Tests.{eqb-true}
use Rattle.field.proofs.PutLaws.{put_part}
use Rattle.fill.proofs.HtmlLaws.{wrote_empty}
use Rattle.fill.proofs.html.put_string.Goals as goal

pub returns-then-is_empty : goal.returns-then-is_empty
returns-then-is_empty c = wrote_empty _ _ _ (eqb-true _ _ (sym c.if-is_empty.ensures))

pub returns-then-s-ge16 : goal.returns-then-s-ge16
returns-then-s-ge16 c = record { out_is = rw c.copy_ends.ensures (put_part _ _ _ c.if-out-end.false); end_is = refl }

pub returns-then-s-ge8 : goal.returns-then-s-ge8
returns-then-s-ge8 c = record { out_is = rw c.copy_ends-then-s-ge8.ensures (put_part _ _ _ c.if-out-end.false); end_is = refl }

pub returns-then-s-ge4 : goal.returns-then-s-ge4
returns-then-s-ge4 c = record { out_is = rw c.copy_ends-then-s-ge4.ensures (put_part _ _ _ c.if-out-end.false); end_is = refl }

pub returns-then-s-ge2 : goal.returns-then-s-ge2
returns-then-s-ge2 c = record { out_is = rw c.copy_ends-then-s-ge2.ensures (put_part _ _ _ c.if-out-end.false); end_is = refl }

pub returns-else-s-ge2 : goal.returns-else-s-ge2
returns-else-s-ge2 c = record { out_is = rw c.copy_ends-else-s-ge2.ensures (put_part _ _ _ c.if-out-end.false); end_is = refl }
