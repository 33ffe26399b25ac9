use mathlib.Core.Path.{sym, ap, ◌∙◌, subst}
use native.Mathlib.Omega.{arith}
use Rattle.field.specs.Fields.{FieldAt, IsFront, IsEnd}
use Rattle.field.specs.Front.{behind_of}
use Rattle.field.specs.Row.{read}
use Rattle.page.specs.Page.{identifier, member}
use Rattle.page.specs.Tree.{texts_in}
use Rattle.decisions.proofs.Series.{name_40, name_41, name_42, name_other}
use Rattle.decisions.proofs.element.element_name_at.Goals as goal
use Rattle.decisions.proofs.element.element_name_at.Goals.{in_default-via-in-Some+in_default, in_default-via-in_default}

pub returns-in-Some-eq64 : goal.returns-in-Some-eq64
returns-in-Some-eq64 c = let f = c.in-Some-eq64 in ap identifier f.ensures.body_is ∙ sym (name_40 _ f.field-0.tag f.ensures.tag_is (omega arith))

pub returns-in-Some-eq65 : goal.returns-in-Some-eq65
returns-in-Some-eq65 c = let f = c.in-Some-eq65 in ap (λ b. member (texts_in 0x40 (read b))) f.ensures.body_is ∙ sym (name_41 _ f.field-0.tag f.ensures.tag_is (omega arith))

pub returns-in-Some-eq66 : goal.returns-in-Some-eq66
returns-in-Some-eq66 c = let f = c.in-Some-eq66 in rw (c.two_names.ensures.first, c.two_names.ensures.second, f.ensures.body_is) (sym (name_42 _ f.field-0.tag f.ensures.tag_is (omega arith)))

pub returns-in_default : goal.returns-in_default
returns-in_default c =
    elim c.in_default.branch [
      | in_default-via-in-Some+in_default w ↦
          let b = c.args.b.now in
          let f : IsFront b w.in_default.field-0.tag w.in_default.field-0.body.now (behind_of b) = subst (FieldAt b) w.in_default.is c.field_at.ensures in
          sym (name_other _ _ f.tag_is (λ z. grind (arith, z)) (λ z. grind (arith, z)) (λ z. grind (arith, z)))
      | in_default-via-in_default w ↦
          let b = c.args.b.now in
          let f : IsEnd b b = subst (FieldAt b) w.in_default.is c.field_at.ensures in
          sym (name_other _ 256 f.no_tag (λ z. omega (arith, z)) (λ z. omega (arith, z)) (λ z. omega (arith, z)))
    ]
