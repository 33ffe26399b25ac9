-- `html::put_block` meets its contract: without a sign a block is its own escape. Assumes nothing.
use native.Mathlib.Omega.{arith}
use mathlib.Core.Path.{refl, sym, ◌∙◌}
use Rattle.field.proofs.PutLaws.{wrote_is, put_part}
use Rattle.fill.proofs.TextLaws.{block_alone}
use Rattle.fill.proofs.html.put_block.Goals as goal

pub returns-then-are_unmarked : goal.returns-then-are_unmarked
returns-then-are_unmarked c =
    wrote_is (sym (block_alone c.args.s.now (sym c.are_unmarked.ensures ∙ c.if-are_unmarked.true)))
    record { out_is = rw c.copy_block.ensures (put_part _ _ _ (omega (arith, c.requires.1))); end_is = refl }
