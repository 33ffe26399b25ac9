use mathlib.Core.Path.{sym, ap, ◌∙◌, subst}
use native.Mathlib.Omega.{arith}
use Rattle.field.specs.Fields.{FieldAt, IsFront, IsEnd}
use Rattle.field.specs.Front.{behind_of}
use Rattle.decisions.specs.At.{identifier_bytes}
use Rattle.decisions.proofs.ElementLaws.{identifier_other}
use Rattle.decisions.proofs.Series.{name_40}
use Rattle.decisions.proofs.element.identifier.Goals as goal
use Rattle.decisions.proofs.element.identifier.Goals.{in_default-via-in-Some+in_default, in_default-via-in_default}

pub returns-in-Some-eq64 : goal.returns-in-Some-eq64
returns-in-Some-eq64 c = let f = c.in-Some-eq64 in f.ensures.body_is ∙ sym (ap identifier_bytes (name_40 _ f.field-0.tag f.ensures.tag_is (omega arith)))

pub returns-in_default : goal.returns-in_default
returns-in_default c =
    let b = c.args.b.now in
    elim c.in_default.branch [
      | in_default-via-in-Some+in_default w ↦
          let f : IsFront b w.in_default.field-0.tag w.in_default.field-0.body.now (behind_of b) = subst (FieldAt b) w.in_default.is c.field_at.ensures in
          identifier_other b _ f.tag_is (λ z. grind (arith, z))
      | in_default-via-in_default w ↦
          let f : IsEnd b b = subst (FieldAt b) w.in_default.is c.field_at.ensures in
          identifier_other b 256 f.no_tag (λ z. omega (arith, z))
    ]
