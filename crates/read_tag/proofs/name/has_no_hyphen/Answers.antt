-- `read_tag::name::has_no_hyphen` meets its contract: `all` asks each byte. Assumes nothing.
use mathlib.Core.Path.{◌∙◌}
use mathlib.Core.Bool.{not}
use lib.Dec.{eqb}
use Rattle.std.proofs.Common.{rules, tests}
use Rattle.std.proofs.lemmas.Iterator.{YieldsList-from_slice}
use Rattle.std.proofs.lemmas.Iterator.Search.{all_from_yields_List}
use Rattle.grammar.specs.Syntax.{no_hyphen}
use Rattle.read_tag.proofs.RunLaws.{all_others}
use Rattle.read_tag.proofs.name.has_no_hyphen.Goals as goal

pub returns : goal.returns
unfolding no_hyphen
returns c = all_from_yields_List (λ b. not (eqb b 45)) _ _ _ c.all.ensures.ran (YieldsList-from_slice c.args.s.now cc) (λ x b q k. search (rules, tests)) ∙ all_others (λ b. eqb b 45) _
