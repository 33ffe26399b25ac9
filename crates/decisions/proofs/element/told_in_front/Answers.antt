use mathlib.Core.Path.{sym}
use native.Mathlib.Omega.{arith}
use Rattle.decisions.specs.Repeats.{ends_key}
use Rattle.decisions.proofs.ElementLaws.{forbids_53, forbids_other, forbids_none}
use Rattle.decisions.proofs.RepeatLaws.{names_none, names_end, seen_none, seen_all}
use Rattle.decisions.proofs.element.told_in_front.Goals as goal

pub returns-in_default : goal.returns-in_default
returns-in_default c =
    let e = c.in_default.ensures.ended in
    (sym (forbids_none _ e), seen_all (seen_none ends_key _ 0) (names_end _ e))

pub returns-in-83 : goal.returns-in-83
returns-in-83 c = sym (forbids_53 _ _ c.in-Some.ensures.tag_is c.in-83.is)

pub returns-in_default-tag : goal.returns-in_default-tag
returns-in_default-tag c =
    let f = c.in-Some.ensures in
    (sym (forbids_other _ _ f.tag_is (λ z. omega (arith, z)) (λ z. omega (arith, z))), seen_all (seen_none ends_key _ 0) (names_none _ _ f.tag_is (λ z. omega (arith, z)) (λ z. omega (arith, z))))
