use mathlib.Core.Path.{sym, ap, ◌∙◌, subst}
use native.Mathlib.Omega.{arith}
use Rattle.field.specs.Fields.{FieldAt, IsFront, IsEnd}
use Rattle.field.specs.Front.{behind_of}
use Rattle.names.specs.Names.{ident}
use Rattle.decisions.proofs.AttributeLaws.{not_ident}
use Rattle.decisions.proofs.Series.{attr_name_40}
use Rattle.decisions.proofs.attribute.ident_at.Goals as goal
use Rattle.decisions.proofs.attribute.ident_at.Goals.{in_default-via-in-Some+in_default, in_default-via-in_default}

pub returns-in-Some-eq64 : goal.returns-in-Some-eq64
returns-in-Some-eq64 c = let f = c.in-Some-eq64 in attr_name_40 _ f.field-0.tag f.ensures.tag_is (omega arith) ∙ sym (ap ident f.ensures.body_is)

pub returns-in_default : goal.returns-in_default
returns-in_default c =
    let a = c.args.a.now in
    elim c.in_default.branch [
      | in_default-via-in-Some+in_default w ↦
          let f : IsFront a w.in_default.field-0.tag w.in_default.field-0.body.now (behind_of a) = subst (FieldAt a) w.in_default.is c.field_at.ensures in
          not_ident a _ f.tag_is (λ z. grind (arith, z))
      | in_default-via-in_default w ↦
          let f : IsEnd a a = subst (FieldAt a) w.in_default.is c.field_at.ensures in
          not_ident a 256 f.no_tag (λ z. omega (arith, z))
    ]
