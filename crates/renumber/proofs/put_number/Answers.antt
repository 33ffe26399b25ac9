-- `renumber::put_number` meets its contract, by the tag and the width. Assumes nothing.
use mathlib.Core.Path.{◌≡◌, sym, ap, ◌∙◌}
use mathlib.Core.List.{[]}
use native.Mathlib.Omega.{arith}
use lib.ListN.{length}
use Rattle.field.proofs.NumberLaws.{length_big_endian}
use Rattle.field.proofs.PutLaws.{wrote_is, wrote_none}
use Rattle.renumber.specs.Step.{numbered}
use Rattle.renumber.proofs.Renumbering.{numbered_not, numbered_call, four_left}
use Rattle.renumber.proofs.put_number.Goals as goal

pub returns-in_default : goal.returns-in_default
returns-in_default c = wrote_is (sym (numbered_not _ _ _ (λ z. omega (arith, z)))) (wrote_none _ _)

pub put_two-requires : goal.put_two-requires
put_two-requires c = let a = c.args in let e : length (numbered a.width a.tag a.number) ≡ 2 = ap length (numbered_call a.width a.tag a.number 2 (omega arith) (omega arith)) ∙ length_big_endian 2 a.number [] in
    omega (arith, c.requires.0)

pub put_four-requires : goal.put_four-requires
put_four-requires c = let a = c.args in let four = four_left c.requires.1 (λ z. omega (arith, z)) in
    let e : length (numbered a.width a.tag a.number) ≡ 4 = ap length (numbered_call a.width a.tag a.number 4 (omega arith) four) ∙ length_big_endian 4 a.number [] in
    omega (arith, c.requires.0)
