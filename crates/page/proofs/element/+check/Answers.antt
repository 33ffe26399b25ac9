-- What `check_attribute` and the functions of its cycle need to meet their contracts. Assumes nothing.
use mathlib.Core.Path.{refl, ◌∙◌, sym, ap}
use native.Mathlib.Omega.{arith}
use Rattle.page.proofs.Steps.{rests, exit_at, refused_at, last_at, next_at, on_at}
use Rattle.page.proofs.CheckLaws.{attribute_name, attribute_other, attribute_end, container_empty, container_expr, expr_step, expr_end, expr_text, expr_72, expr_73, expr_number, expr_other, expr_76, expr_79, expr_tag, items_step, items_end, item_77, item_78, item_expr, nodes_child, nodes_50, nodes_53, nodes_end, child_60, child_52, child_61, child_tag, pieces_step, pieces_end, piece_20, piece_tag, element_then, behind_short, tag_30, tag_31, tag_other, value_step, value_end, value_51, value_52, value_tag}
use borrow.Author.Tests.{eqb-true, eqb-false}
use Rattle.page.proofs.element.+check.Goals as goal
use Rattle.page.proofs.element.+check.Goals.{check_nodes-in_default-tag-via-in-80+else-first, check_nodes-in_default-tag-via-in-83+else-first-2, check_nodes-in_default-tag-via-in_default-1, check_tag-in-48+in_ok-check_depth-in-48+in_ok-check_element_name-in-48, check_tag-in-49+in_ok-check_depth-in-49, check_value-in-81+in_ok-check_depth-in-81+in_ok-check_text-in-81, check_value-in-82+in_ok-check_depth-in-82+in_ok-check_container-in-82, check_value-in_default-tag+in_ok-check_tag-in_default-tag}

pub check_attribute-returns-in_err-check_depth-in-Some-eq64 : goal.check_attribute-returns-in_err-check_depth-in-Some-eq64
check_attribute-returns-in_err-check_depth-in-Some-eq64 t c = exit_at (attribute_name _ c.in-Some-eq64.ensures.steps (λ y z. omega (arith, y, z))) c.check_depth.ensures.gives c.in_err-check_depth-in-Some-eq64.was c.from_residual.ensures

pub check_attribute-returns-in_err-check_name_by-in-Some-eq64 : goal.check_attribute-returns-in_err-check_name_by-in-Some-eq64
check_attribute-returns-in_err-check_name_by-in-Some-eq64 t c = exit_at (next_at (attribute_name _ c.in-Some-eq64.ensures.steps (λ y z. omega (arith, y, z))) c.check_depth.ensures.gives c.in_ok-check_depth-in-Some-eq64.was) c.check_name_by.ensures c.in_err-check_name_by-in-Some-eq64.was c.from_residual-in_err-check_name_by-in-Some-eq64.ensures

pub check_attribute-returns-in_ok-check_name_by-in-Some-eq64 : goal.check_attribute-returns-in_ok-check_name_by-in-Some-eq64
check_attribute-returns-in_ok-check_name_by-in-Some-eq64 t c = last_at (next_at (attribute_name _ c.in-Some-eq64.ensures.steps (λ y z. omega (arith, y, z))) c.check_depth.ensures.gives c.in_ok-check_depth-in-Some-eq64.was) c.check_name_by.ensures c.in_ok-check_name_by-in-Some-eq64.was c.check_value.ensures

pub check_attribute-returns-in-Some : goal.check_attribute-returns-in-Some
check_attribute-returns-in-Some t c = attribute_other _ c.in-Some.ensures.steps (λ z. grind (arith, z)) (λ z. grind (arith, z))

pub check_attribute-returns-in-None : goal.check_attribute-returns-in-None
check_attribute-returns-in-None t c = c.check_missing.ensures ∙ attribute_end _ (rests c.in-None.ensures.steps)

pub check_container-returns-then-is_empty : goal.check_container-returns-then-is_empty
check_container-returns-then-is_empty t c = container_empty _ _ (eqb-true _ _ (sym c.if-is_empty.ensures))

pub check_container-returns-else-is_empty : goal.check_container-returns-else-is_empty
check_container-returns-else-is_empty t c = c.check_expr.ensures ∙ container_expr _ _ (eqb-false _ _ (sym c.if-is_empty.ensures))

pub check_expr-returns-in_default : goal.check_expr-returns-in_default
check_expr-returns-in_default t c = c.check_missing.ensures ∙ expr_end _ (rests c.in_default.ensures.steps)

pub check_expr-returns-in_err-check_expr_field : goal.check_expr-returns-in_err-check_expr_field
check_expr-returns-in_err-check_expr_field t c = exit_at (expr_step _ c.in-Some.ensures.steps) c.check_expr_field.ensures c.in_err-check_expr_field.was c.from_residual.ensures

pub check_expr-returns : goal.check_expr-returns
check_expr-returns t c = last_at (expr_step _ c.in-Some.ensures.steps) c.check_expr_field.ensures c.in_ok-check_expr_field.was c.check_end.ensures

pub check_expr_field-returns-in_err-check_depth-in-118 : goal.check_expr_field-returns-in_err-check_depth-in-118
check_expr_field-returns-in_err-check_depth-in-118 t c = exit_at (expr_76 _ _ c.in-118.is) c.check_depth-in-118.ensures.gives c.in_err-check_depth-in-118.was c.from_residual-in_err-check_depth-in-118.ensures

pub check_expr_field-returns-in_ok-check_depth-in-118 : goal.check_expr_field-returns-in_ok-check_depth-in-118
check_expr_field-returns-in_ok-check_depth-in-118 t c = last_at (expr_76 _ _ c.in-118.is) c.check_depth-in-118.ensures.gives c.in_ok-check_depth-in-118.was c.check_items.ensures

pub check_expr_field-returns-in_err-check_depth-in-121 : goal.check_expr_field-returns-in_err-check_depth-in-121
check_expr_field-returns-in_err-check_depth-in-121 t c = exit_at (expr_79 _ _ c.in-121.is) c.check_depth-in-121.ensures.gives c.in_err-check_depth-in-121.was c.from_residual-in_err-check_depth-in-121.ensures

pub check_expr_field-returns-in_ok-check_depth-in-121 : goal.check_expr_field-returns-in_ok-check_depth-in-121
check_expr_field-returns-in_ok-check_depth-in-121 t c = last_at (expr_79 _ _ c.in-121.is) c.check_depth-in-121.ensures.gives c.in_ok-check_depth-in-121.was c.check_pieces.ensures

pub check_expr_field-returns-in-48 : goal.check_expr_field-returns-in-48
check_expr_field-returns-in-48 t c = c.check_tag.ensures ∙ expr_tag _ _ (λ y z. omega (arith, y, z))

pub check_expr_field-returns-in_err-check_depth-in-112 : goal.check_expr_field-returns-in_err-check_depth-in-112
check_expr_field-returns-in_err-check_depth-in-112 t c = exit_at (expr_text _ _ c.in-112.is) c.check_depth.ensures.gives c.in_err-check_depth-in-112.was c.from_residual.ensures

pub check_expr_field-returns-in_ok-check_depth-in-112 : goal.check_expr_field-returns-in_ok-check_depth-in-112
check_expr_field-returns-in_ok-check_depth-in-112 t c = last_at (expr_text _ _ c.in-112.is) c.check_depth.ensures.gives c.in_ok-check_depth-in-112.was c.check_text.ensures

pub check_expr_field-returns-in_err-check_depth-in-114 : goal.check_expr_field-returns-in_err-check_depth-in-114
check_expr_field-returns-in_err-check_depth-in-114 t c = exit_at (expr_72 _ _ c.in-114.is) c.check_depth-in-114.ensures.gives c.in_err-check_depth-in-114.was c.from_residual-in_err-check_depth-in-114.ensures

pub check_expr_field-returns-in_ok-check_depth-in-114 : goal.check_expr_field-returns-in_ok-check_depth-in-114
check_expr_field-returns-in_ok-check_depth-in-114 t c = last_at (expr_72 _ _ c.in-114.is) c.check_depth-in-114.ensures.gives c.in_ok-check_depth-in-114.was c.check_boolean.ensures

pub check_expr_field-returns-in_err-check_depth-in-115 : goal.check_expr_field-returns-in_err-check_depth-in-115
check_expr_field-returns-in_err-check_depth-in-115 t c = exit_at (expr_73 _ _ c.in-115.is) c.check_depth-in-115.ensures.gives c.in_err-check_depth-in-115.was c.from_residual-in_err-check_depth-in-115.ensures

pub check_expr_field-returns-in_ok-check_depth-in-115 : goal.check_expr_field-returns-in_ok-check_depth-in-115
check_expr_field-returns-in_ok-check_depth-in-115 t c = last_at (expr_73 _ _ c.in-115.is) c.check_depth-in-115.ensures.gives c.in_ok-check_depth-in-115.was c.check_empty.ensures

pub check_expr_field-returns-in_err-check_depth-in-113 : goal.check_expr_field-returns-in_err-check_depth-in-113
check_expr_field-returns-in_err-check_depth-in-113 t c = exit_at (expr_number _ _ (λ w x y z. grind (arith, w, x, y, z))) c.check_depth-in-113.ensures.gives c.in_err-check_depth-in-113.was c.from_residual-in_err-check_depth-in-113.ensures

pub check_expr_field-returns-in_ok-check_depth-in-113 : goal.check_expr_field-returns-in_ok-check_depth-in-113
check_expr_field-returns-in_ok-check_depth-in-113 t c = last_at (expr_number _ _ (λ w x y z. grind (arith, w, x, y, z))) c.check_depth-in-113.ensures.gives c.in_ok-check_depth-in-113.was c.check_number.ensures

pub check_expr_field-returns-in_default : goal.check_expr_field-returns-in_default
check_expr_field-returns-in_default t c =
    expr_other _ _ (λ z. omega (arith, z)) (λ z. omega (arith, z)) (λ z. omega (arith, z)) (λ z. omega (arith, z)) (λ z. omega (arith, z)) (λ z. omega (arith, z)) (λ z. omega (arith, z)) (λ z. omega (arith, z)) (λ z. omega (arith, z)) (λ z. omega (arith, z)) (λ z. omega (arith, z)) (λ z. omega (arith, z))

pub check_expr_field-returns-in_default-2 : goal.check_expr_field-returns-in_default-2
check_expr_field-returns-in_default-2 t c =
    expr_other _ _ (λ z. grind (arith, z)) (λ z. grind (arith, z)) (λ z. grind (arith, z)) (λ z. grind (arith, z)) (λ z. grind (arith, z)) (λ z. grind (arith, z)) (λ z. grind (arith, z)) (λ z. grind (arith, z)) (λ z. grind (arith, z)) (λ z. grind (arith, z)) (λ z. grind (arith, z)) (λ z. grind (arith, z))

pub check_expr_field-returns-in_default-3 : goal.check_expr_field-returns-in_default-3
check_expr_field-returns-in_default-3 t c =
    expr_other _ _ (λ z. omega (arith, z)) (λ z. omega (arith, z)) (λ z. omega (arith, z)) (λ z. omega (arith, z)) (λ z. omega (arith, z)) (λ z. omega (arith, z)) (λ z. omega (arith, z)) (λ z. omega (arith, z)) (λ z. omega (arith, z)) (λ z. omega (arith, z)) (λ z. omega (arith, z)) (λ z. omega (arith, z))

pub check_items-returns-in_err-check_depth-in-119 : goal.check_items-returns-in_err-check_depth-in-119
check_items-returns-in_err-check_depth-in-119 t c = exit_at (items_step _ c.in-Some.ensures.steps) (refused_at (item_77 _ _ (omega arith)) c.check_depth.ensures.gives c.in_err-check_depth-in-119.was) refl c.from_residual.ensures ∙ sym c.loop-field.invariant.1

pub check_items-returns-in_err-check_expr-in-119 : goal.check_items-returns-in_err-check_expr-in-119
check_items-returns-in_err-check_expr-in-119 t c = exit_at (items_step _ c.in-Some.ensures.steps) (last_at (item_77 _ _ (omega arith)) c.check_depth.ensures.gives c.in_ok-check_depth-in-119.was c.check_expr.ensures) c.in_err-check_expr-in-119.was c.from_residual-in_err-check_expr-in-119.ensures ∙ sym c.loop-field.invariant.1

pub check_items-loop-field-preserved-in-Continue-branch-2 : goal.check_items-loop-field-preserved-in-Continue-branch-2
check_items-loop-field-preserved-in-Continue-branch-2 t c = (omega (arith, c.loop-field.invariant.0, (c.in-Some.ensures.steps).sizes), c.loop-field.invariant.1 ∙ on_at (items_step _ c.in-Some.ensures.steps) (last_at (item_77 _ _ (omega arith)) c.check_depth.ensures.gives c.in_ok-check_depth-in-119.was c.check_expr.ensures) c.in_ok-check_expr-in-119.was)

pub check_items-returns-in_err-check_depth-in-120 : goal.check_items-returns-in_err-check_depth-in-120
check_items-returns-in_err-check_depth-in-120 t c = exit_at (items_step _ c.in-Some.ensures.steps) (refused_at (item_78 _ _ (omega arith)) c.check_depth-in-120.ensures.gives c.in_err-check_depth-in-120.was) refl c.from_residual-in_err-check_depth-in-120.ensures ∙ sym c.loop-field.invariant.1

pub check_items-returns-in_err-check_empty-in-120 : goal.check_items-returns-in_err-check_empty-in-120
check_items-returns-in_err-check_empty-in-120 t c = exit_at (items_step _ c.in-Some.ensures.steps) (last_at (item_78 _ _ (omega arith)) c.check_depth-in-120.ensures.gives c.in_ok-check_depth-in-120.was c.check_empty.ensures) c.in_err-check_empty-in-120.was c.from_residual-in_err-check_empty-in-120.ensures ∙ sym c.loop-field.invariant.1

pub check_items-loop-field-preserved-in-Continue-branch-4 : goal.check_items-loop-field-preserved-in-Continue-branch-4
check_items-loop-field-preserved-in-Continue-branch-4 t c = (omega (arith, c.loop-field.invariant.0, (c.in-Some.ensures.steps).sizes), c.loop-field.invariant.1 ∙ on_at (items_step _ c.in-Some.ensures.steps) (last_at (item_78 _ _ (omega arith)) c.check_depth-in-120.ensures.gives c.in_ok-check_depth-in-120.was c.check_empty.ensures) c.in_ok-check_empty-in-120.was)

pub check_items-returns-in_err-check_expr_field-in_default-tag : goal.check_items-returns-in_err-check_expr_field-in_default-tag
check_items-returns-in_err-check_expr_field-in_default-tag t c = exit_at (items_step _ c.in-Some.ensures.steps) (c.check_expr_field.ensures ∙ item_expr _ _ (λ z. omega (arith, z)) (λ z. omega (arith, z))) c.in_err-check_expr_field-in_default-tag.was c.from_residual-in_err-check_expr_field-in_default-tag.ensures ∙ sym c.loop-field.invariant.1

pub check_items-loop-field-preserved : goal.check_items-loop-field-preserved
check_items-loop-field-preserved t c = (omega (arith, c.loop-field.invariant.0, (c.in-Some.ensures.steps).sizes), c.loop-field.invariant.1 ∙ on_at (items_step _ c.in-Some.ensures.steps) (c.check_expr_field.ensures ∙ item_expr _ _ (λ z. omega (arith, z)) (λ z. omega (arith, z))) c.in_ok-check_expr_field-in_default-tag.was)

pub check_items-returns : goal.check_items-returns
check_items-returns t c = c.check_nothing_after.ensures ∙ items_end _ c.in_default.ensures.steps ∙ sym c.loop-field.invariant.1

pub check_nodes-returns-in_err-check_depth-in-80 : goal.check_nodes-returns-in_err-check_depth-in-80
check_nodes-returns-in_err-check_depth-in-80 t c = exit_at (nodes_50 _ _ c.in-Some.ensures.steps c.if-first.true (omega arith)) c.check_depth.ensures.gives c.in_err-check_depth-in-80.was c.from_residual.ensures ∙ sym c.loop-field.invariant.1

pub check_nodes-returns-in_err-check_attribute-in-80 : goal.check_nodes-returns-in_err-check_attribute-in-80
check_nodes-returns-in_err-check_attribute-in-80 t c = exit_at (next_at (nodes_50 _ _ c.in-Some.ensures.steps c.if-first.true (omega arith)) c.check_depth.ensures.gives c.in_ok-check_depth-in-80.was) c.check_attribute.ensures c.in_err-check_attribute-in-80.was c.from_residual-in_err-check_attribute-in-80.ensures ∙ sym c.loop-field.invariant.1

pub check_nodes-loop-field-preserved-then-first : goal.check_nodes-loop-field-preserved-then-first
check_nodes-loop-field-preserved-then-first t c = (omega (arith, c.loop-field.invariant.0, (c.in-Some.ensures.steps).sizes), c.loop-field.invariant.1 ∙ on_at (next_at (nodes_50 _ _ c.in-Some.ensures.steps c.if-first.true (omega arith)) c.check_depth.ensures.gives c.in_ok-check_depth-in-80.was) c.check_attribute.ensures c.in_ok-check_attribute-in-80.was)

pub check_nodes-returns-in_err-check_depth-in-83 : goal.check_nodes-returns-in_err-check_depth-in-83
check_nodes-returns-in_err-check_depth-in-83 t c = exit_at (nodes_53 _ _ c.in-Some.ensures.steps c.if-first-2.true (omega arith)) c.check_depth-in-83.ensures.gives c.in_err-check_depth-in-83.was c.from_residual-in_err-check_depth-in-83.ensures ∙ sym c.loop-field.invariant.1

pub check_nodes-returns-in_err-check_expr-in-83 : goal.check_nodes-returns-in_err-check_expr-in-83
check_nodes-returns-in_err-check_expr-in-83 t c = exit_at (next_at (nodes_53 _ _ c.in-Some.ensures.steps c.if-first-2.true (omega arith)) c.check_depth-in-83.ensures.gives c.in_ok-check_depth-in-83.was) c.check_expr.ensures c.in_err-check_expr-in-83.was c.from_residual-in_err-check_expr-in-83.ensures ∙ sym c.loop-field.invariant.1

pub check_nodes-loop-field-preserved-then-first-2 : goal.check_nodes-loop-field-preserved-then-first-2
check_nodes-loop-field-preserved-then-first-2 t c = (omega (arith, c.loop-field.invariant.0, (c.in-Some.ensures.steps).sizes), c.loop-field.invariant.1 ∙ on_at (next_at (nodes_53 _ _ c.in-Some.ensures.steps c.if-first-2.true (omega arith)) c.check_depth-in-83.ensures.gives c.in_ok-check_depth-in-83.was) c.check_expr.ensures c.in_ok-check_expr-in-83.was)

pub check_nodes-returns-in_err-check_depth-in-96 : goal.check_nodes-returns-in_err-check_depth-in-96
check_nodes-returns-in_err-check_depth-in-96 t c = exit_at (nodes_child _ _ c.in-Some.ensures.steps (λ z. absurd (omega (arith, z))) (λ z. absurd (omega (arith, z)))) (refused_at (child_60 _ _ (omega arith)) c.check_depth-in-96.ensures.gives c.in_err-check_depth-in-96.was) refl c.from_residual-in_err-check_depth-in-96.ensures ∙ sym c.loop-field.invariant.1

pub check_nodes-returns-in_err-check_text-in-96 : goal.check_nodes-returns-in_err-check_text-in-96
check_nodes-returns-in_err-check_text-in-96 t c = exit_at (nodes_child _ _ c.in-Some.ensures.steps (λ z. absurd (omega (arith, z))) (λ z. absurd (omega (arith, z)))) (last_at (child_60 _ _ (omega arith)) c.check_depth-in-96.ensures.gives c.in_ok-check_depth-in-96.was c.check_text.ensures) c.in_err-check_text-in-96.was c.from_residual-in_err-check_text-in-96.ensures ∙ sym c.loop-field.invariant.1

pub check_nodes-loop-field-preserved-in-96-1 : goal.check_nodes-loop-field-preserved-in-96-1
check_nodes-loop-field-preserved-in-96-1 t c = (omega (arith, c.loop-field.invariant.0, (c.in-Some.ensures.steps).sizes), c.loop-field.invariant.1 ∙ on_at (nodes_child _ _ c.in-Some.ensures.steps (λ z. absurd (omega (arith, z))) (λ z. absurd (omega (arith, z)))) (last_at (child_60 _ _ (omega arith)) c.check_depth-in-96.ensures.gives c.in_ok-check_depth-in-96.was c.check_text.ensures) c.in_ok-check_text-in-96.was)

pub check_nodes-returns-in_err-check_depth-in-82 : goal.check_nodes-returns-in_err-check_depth-in-82
check_nodes-returns-in_err-check_depth-in-82 t c = exit_at (nodes_child _ _ c.in-Some.ensures.steps (λ z. absurd (omega (arith, z))) (λ z. absurd (omega (arith, z)))) (refused_at (child_52 _ _ (omega arith)) c.check_depth-in-82.ensures.gives c.in_err-check_depth-in-82.was) refl c.from_residual-in_err-check_depth-in-82.ensures ∙ sym c.loop-field.invariant.1

pub check_nodes-returns-in_err-check_container-in-82 : goal.check_nodes-returns-in_err-check_container-in-82
check_nodes-returns-in_err-check_container-in-82 t c = exit_at (nodes_child _ _ c.in-Some.ensures.steps (λ z. absurd (omega (arith, z))) (λ z. absurd (omega (arith, z)))) (last_at (child_52 _ _ (omega arith)) c.check_depth-in-82.ensures.gives c.in_ok-check_depth-in-82.was c.check_container.ensures) c.in_err-check_container-in-82.was c.from_residual-in_err-check_container-in-82.ensures ∙ sym c.loop-field.invariant.1

pub check_nodes-loop-field-preserved-in-82-1 : goal.check_nodes-loop-field-preserved-in-82-1
check_nodes-loop-field-preserved-in-82-1 t c = (omega (arith, c.loop-field.invariant.0, (c.in-Some.ensures.steps).sizes), c.loop-field.invariant.1 ∙ on_at (nodes_child _ _ c.in-Some.ensures.steps (λ z. absurd (omega (arith, z))) (λ z. absurd (omega (arith, z)))) (last_at (child_52 _ _ (omega arith)) c.check_depth-in-82.ensures.gives c.in_ok-check_depth-in-82.was c.check_container.ensures) c.in_ok-check_container-in-82.was)

pub check_nodes-returns-in_err-check_depth-in-97 : goal.check_nodes-returns-in_err-check_depth-in-97
check_nodes-returns-in_err-check_depth-in-97 t c = exit_at (nodes_child _ _ c.in-Some.ensures.steps (λ z. absurd (omega (arith, z))) (λ z. absurd (omega (arith, z)))) (refused_at (child_61 _ _ (omega arith)) c.check_depth-in-97.ensures.gives c.in_err-check_depth-in-97.was) refl c.from_residual-in_err-check_depth-in-97.ensures ∙ sym c.loop-field.invariant.1

pub check_nodes-returns-in_err-check_expr-in-97 : goal.check_nodes-returns-in_err-check_expr-in-97
check_nodes-returns-in_err-check_expr-in-97 t c = exit_at (nodes_child _ _ c.in-Some.ensures.steps (λ z. absurd (omega (arith, z))) (λ z. absurd (omega (arith, z)))) (last_at (child_61 _ _ (omega arith)) c.check_depth-in-97.ensures.gives c.in_ok-check_depth-in-97.was c.check_expr-in-97.ensures) c.in_err-check_expr-in-97.was c.from_residual-in_err-check_expr-in-97.ensures ∙ sym c.loop-field.invariant.1

pub check_nodes-loop-field-preserved-in-97-1 : goal.check_nodes-loop-field-preserved-in-97-1
check_nodes-loop-field-preserved-in-97-1 t c = (omega (arith, c.loop-field.invariant.0, (c.in-Some.ensures.steps).sizes), c.loop-field.invariant.1 ∙ on_at (nodes_child _ _ c.in-Some.ensures.steps (λ z. absurd (omega (arith, z))) (λ z. absurd (omega (arith, z)))) (last_at (child_61 _ _ (omega arith)) c.check_depth-in-97.ensures.gives c.in_ok-check_depth-in-97.was c.check_expr-in-97.ensures) c.in_ok-check_expr-in-97.was)

pub check_nodes-returns-in_err-check_tag-in_default-tag : goal.check_nodes-returns-in_err-check_tag-in_default-tag
check_nodes-returns-in_err-check_tag-in_default-tag t c = elim c.in_default-tag.branch [
  | check_nodes-in_default-tag-via-in-80+else-first w ↦ exit_at (nodes_child _ _ c.in-Some.ensures.steps (λ z. w.if-first.false) (λ z. w.if-first.false)) (c.check_tag.ensures ∙ child_tag _ _ (λ z. omega (arith, z)) (λ z. omega (arith, z)) (λ z. omega (arith, z))) c.in_err-check_tag-in_default-tag.was c.from_residual-in_err-check_tag-in_default-tag.ensures ∙ sym c.loop-field.invariant.1
  | check_nodes-in_default-tag-via-in-83+else-first-2 w ↦ exit_at (nodes_child _ _ c.in-Some.ensures.steps (λ z. w.if-first-2.false) (λ z. w.if-first-2.false)) (c.check_tag.ensures ∙ child_tag _ _ (λ z. omega (arith, z)) (λ z. omega (arith, z)) (λ z. omega (arith, z))) c.in_err-check_tag-in_default-tag.was c.from_residual-in_err-check_tag-in_default-tag.ensures ∙ sym c.loop-field.invariant.1
  | check_nodes-in_default-tag-via-in_default-1 w ↦ exit_at (nodes_child _ _ c.in-Some.ensures.steps (λ z. absurd (omega (arith, z))) (λ z. absurd (omega (arith, z)))) (c.check_tag.ensures ∙ child_tag _ _ (λ z. omega (arith, z)) (λ z. omega (arith, z)) (λ z. omega (arith, z))) c.in_err-check_tag-in_default-tag.was c.from_residual-in_err-check_tag-in_default-tag.ensures ∙ sym c.loop-field.invariant.1
]

pub check_nodes-loop-field-preserved : goal.check_nodes-loop-field-preserved
check_nodes-loop-field-preserved t c = (
  omega (arith, c.loop-field.invariant.0, (c.in-Some.ensures.steps).sizes),
  elim c.in_default-tag.branch [
    | check_nodes-in_default-tag-via-in-80+else-first w ↦ c.loop-field.invariant.1 ∙ on_at (nodes_child _ _ c.in-Some.ensures.steps (λ z. w.if-first.false) (λ z. w.if-first.false)) (c.check_tag.ensures ∙ child_tag _ _ (λ z. omega (arith, z)) (λ z. omega (arith, z)) (λ z. omega (arith, z))) c.in_ok-check_tag-in_default-tag.was
    | check_nodes-in_default-tag-via-in-83+else-first-2 w ↦ c.loop-field.invariant.1 ∙ on_at (nodes_child _ _ c.in-Some.ensures.steps (λ z. w.if-first-2.false) (λ z. w.if-first-2.false)) (c.check_tag.ensures ∙ child_tag _ _ (λ z. omega (arith, z)) (λ z. omega (arith, z)) (λ z. omega (arith, z))) c.in_ok-check_tag-in_default-tag.was
    | check_nodes-in_default-tag-via-in_default-1 w ↦ c.loop-field.invariant.1 ∙ on_at (nodes_child _ _ c.in-Some.ensures.steps (λ z. absurd (omega (arith, z))) (λ z. absurd (omega (arith, z)))) (c.check_tag.ensures ∙ child_tag _ _ (λ z. omega (arith, z)) (λ z. omega (arith, z)) (λ z. omega (arith, z))) c.in_ok-check_tag-in_default-tag.was
  ],
)

pub check_nodes-returns : goal.check_nodes-returns
check_nodes-returns t c = c.check_nothing_after.ensures ∙ nodes_end _ c.in_default.ensures.steps _ ∙ sym c.loop-field.invariant.1

pub check_pieces-returns-in_err-check_depth-in-32 : goal.check_pieces-returns-in_err-check_depth-in-32
check_pieces-returns-in_err-check_depth-in-32 t c = exit_at (pieces_step _ c.in-Some.ensures.steps) (refused_at (piece_20 _ _ (omega arith)) c.check_depth.ensures.gives c.in_err-check_depth-in-32.was) refl c.from_residual.ensures ∙ sym c.loop-field.invariant.1

pub check_pieces-returns-in_err-check_text-in-32 : goal.check_pieces-returns-in_err-check_text-in-32
check_pieces-returns-in_err-check_text-in-32 t c = exit_at (pieces_step _ c.in-Some.ensures.steps) (last_at (piece_20 _ _ (omega arith)) c.check_depth.ensures.gives c.in_ok-check_depth-in-32.was c.check_text.ensures) c.in_err-check_text-in-32.was c.from_residual-in_err-check_text-in-32.ensures ∙ sym c.loop-field.invariant.1

pub check_pieces-loop-field-preserved-in-Continue-branch-2 : goal.check_pieces-loop-field-preserved-in-Continue-branch-2
check_pieces-loop-field-preserved-in-Continue-branch-2 t c = (omega (arith, c.loop-field.invariant.0, (c.in-Some.ensures.steps).sizes), c.loop-field.invariant.1 ∙ on_at (pieces_step _ c.in-Some.ensures.steps) (last_at (piece_20 _ _ (omega arith)) c.check_depth.ensures.gives c.in_ok-check_depth-in-32.was c.check_text.ensures) c.in_ok-check_text-in-32.was)

pub check_pieces-returns-in_err-check_tag-in_default-tag : goal.check_pieces-returns-in_err-check_tag-in_default-tag
check_pieces-returns-in_err-check_tag-in_default-tag t c = exit_at (pieces_step _ c.in-Some.ensures.steps) (c.check_tag.ensures ∙ piece_tag _ _ (λ z. omega (arith, z))) c.in_err-check_tag-in_default-tag.was c.from_residual-in_err-check_tag-in_default-tag.ensures ∙ sym c.loop-field.invariant.1

pub check_pieces-loop-field-preserved : goal.check_pieces-loop-field-preserved
check_pieces-loop-field-preserved t c = (omega (arith, c.loop-field.invariant.0, (c.in-Some.ensures.steps).sizes), c.loop-field.invariant.1 ∙ on_at (pieces_step _ c.in-Some.ensures.steps) (c.check_tag.ensures ∙ piece_tag _ _ (λ z. omega (arith, z))) c.in_ok-check_tag-in_default-tag.was)

pub check_pieces-returns : goal.check_pieces-returns
check_pieces-returns t c = c.check_nothing_after.ensures ∙ pieces_end _ c.in_default.ensures.steps ∙ sym c.loop-field.invariant.1

pub check_tag-returns-in_err-check_depth-in-48 : goal.check_tag-returns-in_err-check_depth-in-48
check_tag-returns-in_err-check_depth-in-48 t c = exit_at (tag_30 _ _ c.in-48.is) c.check_depth.ensures.gives c.in_err-check_depth-in-48.was c.from_residual.ensures

pub check_tag-returns-in_err-check_element_name-in-48 : goal.check_tag-returns-in_err-check_element_name-in-48
check_tag-returns-in_err-check_element_name-in-48 t c = last_at (tag_30 _ _ c.in-48.is) c.check_depth.ensures.gives c.in_ok-check_depth-in-48.was (exit_at (element_then _ _ refl) c.check_element_name.ensures c.in_err-check_element_name-in-48.was c.from_residual-in_err-check_element_name-in-48.ensures)

pub check_tag-returns-in_err-check_depth-in-49 : goal.check_tag-returns-in_err-check_depth-in-49
check_tag-returns-in_err-check_depth-in-49 t c = exit_at (tag_31 _ _ c.in-49.is) c.check_depth-in-49.ensures.gives c.in_err-check_depth-in-49.was c.from_residual-in_err-check_depth-in-49.ensures

pub check_tag-returns-in_default : goal.check_tag-returns-in_default
check_tag-returns-in_default t c = tag_other _ _ (λ z. omega (arith, z)) (λ z. omega (arith, z))

pub check_tag-check_nodes-requires : goal.check_tag-check_nodes-requires
check_tag-check_nodes-requires t c = (
  elim c.match-tag.branch [
    | check_tag-in-48+in_ok-check_depth-in-48+in_ok-check_element_name-in-48 w ↦ rw (w.nodes-is, w.behind-nodes.ensures) (omega (arith, c.decreases, behind_short c.args.body.now))
    | check_tag-in-49+in_ok-check_depth-in-49 w ↦ rw w.nodes-is (omega (arith, c.decreases))
  ],
  tt,
)

pub check_tag-returns : goal.check_tag-returns
check_tag-returns t c = elim c.match-tag.branch [
  | check_tag-in-48+in_ok-check_depth-in-48+in_ok-check_element_name-in-48 w ↦ last_at (tag_30 _ _ w.in-48.is) w.check_depth.ensures.gives w.in_ok-check_depth-in-48.was (last_at (element_then _ _ (ap (λ y. y.now) w.nodes-is ∙ w.behind-nodes.ensures)) w.check_element_name.ensures w.in_ok-check_element_name-in-48.was (rw w.attributes-is at c.check_nodes.ensures))
  | check_tag-in-49+in_ok-check_depth-in-49 w ↦ last_at (tag_31 _ _ w.in-49.is) w.check_depth-in-49.ensures.gives w.in_ok-check_depth-in-49.was (rw (ap (λ y. y.now) w.nodes-is, w.attributes-is) at c.check_nodes.ensures)
]

pub check_value-returns-in_default : goal.check_value-returns-in_default
check_value-returns-in_default t c = c.check_nothing_after.ensures ∙ value_end _ (rests c.in_default.ensures.steps)

pub check_value-returns-in_err-check_depth-in-81 : goal.check_value-returns-in_err-check_depth-in-81
check_value-returns-in_err-check_depth-in-81 t c = exit_at (value_step _ c.in-Some.ensures.steps) (refused_at (value_51 _ _ (omega arith)) c.check_depth.ensures.gives c.in_err-check_depth-in-81.was) refl c.from_residual.ensures

pub check_value-returns-in_err-check_text-in-81 : goal.check_value-returns-in_err-check_text-in-81
check_value-returns-in_err-check_text-in-81 t c = exit_at (value_step _ c.in-Some.ensures.steps) (last_at (value_51 _ _ (omega arith)) c.check_depth.ensures.gives c.in_ok-check_depth-in-81.was c.check_text.ensures) c.in_err-check_text-in-81.was c.from_residual-in_err-check_text-in-81.ensures

pub check_value-returns-in_err-check_depth-in-82 : goal.check_value-returns-in_err-check_depth-in-82
check_value-returns-in_err-check_depth-in-82 t c = exit_at (value_step _ c.in-Some.ensures.steps) (refused_at (value_52 _ _ (omega arith)) c.check_depth-in-82.ensures.gives c.in_err-check_depth-in-82.was) refl c.from_residual-in_err-check_depth-in-82.ensures

pub check_value-returns-in_err-check_container-in-82 : goal.check_value-returns-in_err-check_container-in-82
check_value-returns-in_err-check_container-in-82 t c = exit_at (value_step _ c.in-Some.ensures.steps) (last_at (value_52 _ _ (omega arith)) c.check_depth-in-82.ensures.gives c.in_ok-check_depth-in-82.was c.check_container.ensures) c.in_err-check_container-in-82.was c.from_residual-in_err-check_container-in-82.ensures

pub check_value-returns-in_err-check_tag-in_default-tag : goal.check_value-returns-in_err-check_tag-in_default-tag
check_value-returns-in_err-check_tag-in_default-tag t c = exit_at (value_step _ c.in-Some.ensures.steps) (c.check_tag.ensures ∙ value_tag _ _ (λ z. omega (arith, z)) (λ z. omega (arith, z))) c.in_err-check_tag-in_default-tag.was c.from_residual-in_err-check_tag-in_default-tag.ensures

pub check_value-returns : goal.check_value-returns
check_value-returns t c =
    elim c.match-field.branch [
      | check_value-in-81+in_ok-check_depth-in-81+in_ok-check_text-in-81 w ↦ last_at (value_step _ c.in-Some.ensures.steps) (last_at (value_51 _ _ (omega arith)) w.check_depth.ensures.gives w.in_ok-check_depth-in-81.was w.check_text.ensures) w.in_ok-check_text-in-81.was c.check_end.ensures
      | check_value-in-82+in_ok-check_depth-in-82+in_ok-check_container-in-82 w ↦ last_at (value_step _ c.in-Some.ensures.steps) (last_at (value_52 _ _ (omega arith)) w.check_depth-in-82.ensures.gives w.in_ok-check_depth-in-82.was w.check_container.ensures) w.in_ok-check_container-in-82.was c.check_end.ensures
      | check_value-in_default-tag+in_ok-check_tag-in_default-tag w ↦ last_at (value_step _ c.in-Some.ensures.steps) (w.check_tag.ensures ∙ value_tag _ _ (λ z. omega (arith, z)) (λ z. omega (arith, z))) w.in_ok-check_tag-in_default-tag.was c.check_end.ensures
    ]
