use mathlib.Core.Path.{◌∙◌, sym}
use Rattle.found.proofs.FoundLaws.{found_again}
use Rattle.found.proofs.found_in.Goals as goal

pub returns-then-is_most : goal.returns-then-is_most
returns-then-is_most c = found_again _ _ _ _ c.if-known-gt0.true c.requires.1 (sym c.is_most.ensures ∙ c.if-is_most.true) c.innermost.result c.innermost.ensures
