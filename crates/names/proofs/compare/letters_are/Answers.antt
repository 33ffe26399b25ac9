-- `letters_are` meets its contract: `all` asks each pair of letters.
use mathlib.Core.Path.{◌∙◌}
use Prim.Native.Nat.{ℕ}
use lib.Dec.{eqb}
use Rattle.std.proofs.Common.{rules, tests}
use Rattle.std.proofs.lemmas.Iterator.{YieldsList-from_slice, YieldsList-from_zip}
use Rattle.std.proofs.lemmas.Iterator.Search.{all_from_yields_List}
use Rattle.names.specs.Names.{small_letter}
use Rattle.names.proofs.CompareLaws.{letters_all}
use Rattle.names.proofs.compare.letters_are.Goals as goal

pub returns-then-a-b : goal.returns-then-a-b
returns-then-a-b c =
    all_from_yields_List (λ (p : ℕ × ℕ). eqb (small_letter p.0) p.1) c.all.new.self _ _ c.all.ensures.ran (YieldsList-from_zip (YieldsList-from_slice c.args.a.now cc) (YieldsList-from_slice c.args.b.now cc)) (λ x b q k. search (rules, tests)) ∙ letters_all c.args.a.now c.args.b.now c.if-a-b.true
