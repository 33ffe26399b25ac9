-- `text::jsx_text::put_kept_line` meets its contract. Assumes nothing.
use native.Mathlib.Omega.{arith}
use mathlib.Core.Path.{◌≡◌, ap}
use mathlib.Core.List.{[], ◌∷◌, ◌++◌}
use lib.ListN.{length, length-append}
use Rattle.field.specs.Bytes.{Bytes, pick}
use Rattle.field.proofs.PutLaws.{wrote_none, wrote_then, wrote_is}
use Rattle.text.specs.Text.{escape_if}
use Rattle.text.specs.Runs.{kept_line}
use Rattle.text.proofs.WriteLaws.{empty_is, filled_is}
use Rattle.text.proofs.TextLaws.{kept_none, kept_some}
use Rattle.text.proofs.jsx_text.put_kept_line.Goals as goal
use Rattle.text.proofs.jsx_text.put_kept_line.Goals.{Else-is_empty}

pub returns-then-is_empty : goal.returns-then-is_empty
returns-then-is_empty c = let args = c.args in wrote_is (kept_none args.escape args.later args.s.now (empty_is (length args.s.now) c.is_empty.ensures c.if-is_empty.true)) (wrote_none _ _)

some : (c : Else-is_empty) → let a = c.args in pick a.later (32 ∷ []) [] ++ escape_if a.escape a.s.now ≡ escape_if a.escape (kept_line a.later a.s.now)
some c = let args = c.args in kept_some args.escape args.later args.s.now (filled_is (length args.s.now) c.is_empty.ensures c.if-is_empty.false)

pub put_text-requires : goal.put_text-requires
put_text-requires c = omega (arith, c.put_space-a.ensures.end_is, simp length-append at (ap (λ (t : Bytes). length t) (some (goal.at.put_text-requires c).Else-is_empty)))

pub returns : goal.returns
returns c = wrote_is (some (goal.at.returns c).Else-is_empty) (wrote_then c.put_space-a.ensures c.put_text.ensures)
