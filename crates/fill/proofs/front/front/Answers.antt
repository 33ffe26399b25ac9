-- `front::front` meets its contract: where a field stands in front its header is whole. Assumes nothing.
use mathlib.Core.Path.{refl, ◌∙◌}
use native.Mathlib.Omega.{arith}
use Rattle.field.proofs.FrontLaws.{part_sizes}
use Rattle.field.proofs.HeaderLaws.{tag_is, body_is, behind_is}
use Rattle.fill.proofs.Fronts.{three, header}
use Rattle.fill.proofs.front.front.Goals as goal

pub bounds-row-1 : goal.bounds-row-1
bounds-row-1 c = omega (arith, three c.args.row.now c.requires)

pub bounds-row-2 : goal.bounds-row-2
bounds-row-2 c = omega (arith, three c.args.row.now c.requires)

pub bounds-row-0 : goal.bounds-row-0
bounds-row-0 c = omega (arith, three c.args.row.now c.requires)

pub slice_bounds-field-end : goal.slice_bounds-field-end
slice_bounds-field-end c = omega (arith, (header c.args.row.now c.requires (c.from-end.ensures ∙ c.from_be_bytes.ensures)).1.1)

pub slice_bounds-result-count : goal.slice_bounds-result-count
slice_bounds-result-count c = omega (arith, (header c.args.row.now c.requires (c.from-end.ensures ∙ c.from_be_bytes.ensures)).1.1)

pub slice_bounds-result-start : goal.slice_bounds-result-start
slice_bounds-result-start c = omega (arith, (header c.args.row.now c.requires (c.from-end.ensures ∙ c.from_be_bytes.ensures)).1.1)

pub returns : goal.returns
returns c =
    let s = c.args.row.now in
    let q = (header s c.requires (c.from-end.ensures ∙ c.from_be_bytes.ensures)).0 in
    let t = tag_is s q refl in
    let b = body_is s q refl in
    let r = behind_is s q refl in
    record { tag_is = t; tag_below = omega (arith, (c.type_inv.row 0).fits); body_is = b; behind_is = r; sizes = part_sizes _ _ t (λ z. omega (arith, z, (c.type_inv.row 0).fits)) b r }
