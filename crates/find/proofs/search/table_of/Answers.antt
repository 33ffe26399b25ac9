-- `find::search::table_of` meets its contract: the numbers stand over the first of the rest. Assumes nothing.
use mathlib.Core.Path.{ap, ◌∙◌}
use Prim.Native.Nat.{ℕ}
use mathlib.Core.List.{List, ◌++◌}
use lib.ListN.{length, drop, replicate}
use Rattle.std.proofs.lemmas.List.{drop-replicate}
use Rattle.find.proofs.search.table_of.Goals as goal

pub returns : goal.returns
returns c =
    let s = c.args.numbers.now in
    ap (λ (x : List ℕ). x ++ drop (length s) (replicate 256 4294967295)) c.copy_from_slice.ensures.after ∙ ap (λ (x : List ℕ). s ++ x) (drop-replicate (length s) 256 4294967295)
