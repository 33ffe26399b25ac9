use mathlib.Core.Path.{refl, sym, subst}
use native.Mathlib.Omega.{arith}
use Rattle.field.specs.Fields.{GivesField}
use Rattle.field.proofs.FrontLaws.{part_sizes}
use Rattle.field.proofs.HeaderLaws.{tag_is, body_is, behind_is, no_tag, no_field_read}
use Rattle.field.proofs.reader.FieldsIterator.next.Goals as goal

pub returns-in_err-header-clause-steps : goal.returns-in_err-header-clause-steps
returns-in_err-header-clause-steps c =
    let q = c.read_header.ensures.0 in
    let is = c.in_err-header.was in
    subst (λ r. GivesField c.args.self.now r c.args.self.now) (sym c.from_residual.ensures) (record { ended = no_field_read _ q is; no_tag = no_tag _ q is; stays = refl })

pub returns-clause-steps : goal.returns-clause-steps
returns-clause-steps c =
    let q = c.read_header.ensures.0 in
    let is = c.in_ok-header.was in
    let t = tag_is _ q is in
    let b = body_is _ q is in
    let r = behind_is _ q is in
    record { tag_is = t; tag_below = omega arith; body_is = b; behind_is = r; sizes = part_sizes _ _ t (λ z. omega (arith, z)) b r }
