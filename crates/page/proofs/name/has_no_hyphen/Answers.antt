-- `page::name::has_no_hyphen` meets its contract: `all` asks each byte. Assumes nothing.
use mathlib.Core.Path.{◌∙◌}
use mathlib.Core.Bool.{not}
use lib.Dec.{eqb}
use Rattle.std.proofs.Common.{rules, tests}
use Rattle.std.proofs.lemmas.Iterator.{YieldsList-from_slice}
use Rattle.std.proofs.lemmas.Iterator.Search.{all_from_yields_List}
use Rattle.page.proofs.LeafLaws.{hyphen_none}
use Rattle.page.proofs.name.has_no_hyphen.Goals as goal

pub returns : goal.returns
returns c = all_from_yields_List (λ b. not (eqb b 45)) _ _ _ c.all.ensures.ran (YieldsList-from_slice c.args.s.now cc) (λ x b q k. search (rules, tests)) ∙ hyphen_none _
