-- The measures of the cycle: the bytes left, eight a byte, and within one slice a rank. Assumes nothing.
use mathlib.Core.Path.{refl, ap, ◌∙◌, sym}
use mathlib.Core.Logic.{⊎_elim}
use native.Mathlib.Omega.{arith}
use Rattle.visits.proofs.FieldLaws.{front_some, front_none, room_part, room_is}
use Rattle.visits.proofs.ExprLaws.{expr_literal, see_element, see_fragment, array_begin, array_inner, array_close, array_done, source_begin, source_inner, source_close, source_done, literal_room, literal_done, held_nothing, held_expr, spread_begin, spread_inner, spread_close, spread_on, hole_room, hole_on, item_room, item_on, items_end, piece_room, piece_on, piece_element_room, piece_element_on, piece_fragment_room, piece_fragment_on, pieces_past, pieces_end}
use Rattle.text.specs.Text.{normalize_lit_str}
use Rattle.walk.specs.See.{at}
use Rattle.walk.proofs.SeeLaws.{low_is, lift_numbered, lift_wrap, lift_begun_if, lift_wrap_if}
use Rattle.visits.proofs.VisitLaws.{left_room, left_done, found_left, found_recorded, found_paged, found_done, null_room, null_done, fragment_null, fragment_several, fragment_element, fragment_fragment, fragment_spread, fragment_only, element_recorded, element_paged, element_done, template_recorded, template_start, template_parts, template_end, template_visited}
use native.Mathlib.Nat.{le_refl}
use Rattle.visits.proofs.PartLaws.{gap_front_room, gap_held_room, gap_back_room, gap_done, attr_past, attr_low, attr_on, attrs_end, element_call, element_bare, attrs_room, inner_room, inner_done, jsx_template, jsx_call, template_room, template_inside, template_page, template_low, template_done, parts_direct, parts_room, child_past, container_room, container_page, container_low, container_on, element_room as to_parts_element_room, element_on as to_parts_element_on, fragment_room as to_parts_fragment_room, fragment_on as to_parts_fragment_on, parts_past, parts_end}
use mathlib.Core.Bool.{false}
use lib.ListN.{length}
use Rattle.strings.proofs.FrontSizes.{behind_le}
use Rattle.visits.proofs.CallLaws.{prop_low, prop_on, prop_gone, spread_begin as to_props_spread_begin, spread_inner as to_props_spread_inner, spread_close as to_props_spread_close, spread_on as to_props_spread_on, props_end}
use Rattle.visits.proofs.CallSteps.{begin_asked, name_asked, bare_asked, bare_close_asked, bare_done, props_begin_asked, props_asked, front_asked, found_asked, child_asked, closed_asked, key_as, braces_as, key_asked, keyed_asked, keyed_done, string_asked, string_closed, string_done, keyless_asked, keyless_done}
use Rattle.visits.proofs.EntryLaws.{entering_start, text_room, text_on, joined_room, joined_on, expr_run, expr_room, expr_on, element_run, element_room, element_on, fragment_run, fragment_room, fragment_on, other_on, last_run, entering_end}
use Rattle.found.proofs.KnownLaws.{known_none, known_front, known_behind}
use Rattle.visits.proofs.FoundLaws.{many_known, found_short, element_short, items_short, nothing_done, item_done, text_room as to_found_text_room, text_done, hole_room as to_found_hole_room, hole_done, element_room as to_found_element_room, element_done as to_found_element_done, run_room, run_done, expr_room as to_found_expr_room, expr_done, items_room, items_done, merged_begin, merged_room, merged_end, merged_done, many_begin, many_room, many_end, many_done, spliced_begins, spliced_ends, apart_begins, apart_closes, apart_ends, empty_begin, empty_end, empty_done}
use Rattle.records.proofs.ReadLaws.{behind_shorter, inner_shorter}
use borrow.Author.Tests.{eqb-true}
use Rattle.visits.proofs.calls.+visit.Goals as goal
use Rattle.visits.proofs.calls.+visit.Goals.{to_call-in-Some-String, to_call-in-Some-Container, to_call-in-Some-Tag, to_call-in-Some-Tag-2}
use Rattle.visits.proofs.calls.+visit.Goals.{on_expr-in_default-via-in-Some+in_default, on_expr-in_default-via-in_default}

pub on_expr-begin-requires : goal.on_expr-begin-requires
on_expr-begin-requires t c = array_begin _ _ _ _ c.in-Some-eq118.ensures.tag_is c.in-Some-eq118.ensures.body_is (omega arith) _ _ _ c.requires.low

pub on_expr-on_items-x-requires : goal.on_expr-on_items-x-requires
on_expr-on_items-x-requires t c = let e = c.in-Some-eq118.ensures.tag_is in let v = c.in-Some-eq118.ensures.body_is in let l = c.in-Some-eq118.ensures.sizes in
    (omega (arith, l, c.decreases), room_part _ _ _ _ c.requires refl (omega (arith, l)) (array_inner _ _ _ _ e v (omega arith) _ _ _ c.begin.ensures c.requires.low))

pub on_expr-close-requires : goal.on_expr-close-requires
on_expr-close-requires t c = array_close _ _ _ _ c.in-Some-eq118.ensures.tag_is c.in-Some-eq118.ensures.body_is (omega arith) _ _ _ c.begin.ensures c.on_items-x.ensures c.requires.low

pub on_expr-begin-requires-in-Some-eq121 : goal.on_expr-begin-requires-in-Some-eq121
on_expr-begin-requires-in-Some-eq121 t c = source_begin _ _ _ _ c.in-Some-eq121.ensures.tag_is c.in-Some-eq121.ensures.body_is (omega arith) _ _ _ c.requires.low

pub on_expr-on_pieces-x-requires : goal.on_expr-on_pieces-x-requires
on_expr-on_pieces-x-requires t c = let e = c.in-Some-eq121.ensures.tag_is in let v = c.in-Some-eq121.ensures.body_is in let l = c.in-Some-eq121.ensures.sizes in
    (omega (arith, l, c.decreases), room_part _ _ _ _ c.requires refl (omega (arith, l)) (source_inner _ _ _ _ e v (omega arith) _ _ _ c.begin-in-Some-eq121.ensures c.requires.low))

pub on_expr-close-requires-in-Some-eq121 : goal.on_expr-close-requires-in-Some-eq121
on_expr-close-requires-in-Some-eq121 t c = source_close _ _ _ _ c.in-Some-eq121.ensures.tag_is c.in-Some-eq121.ensures.body_is (omega arith) _ _ _ c.begin-in-Some-eq121.ensures c.on_pieces-x.ensures c.requires.low

pub on_expr-on_jsx-requires : goal.on_expr-on_jsx-requires
on_expr-on_jsx-requires t c = let e = c.in-Some-eq48.ensures.tag_is in let v = c.in-Some-eq48.ensures.body_is in let l = c.in-Some-eq48.ensures.sizes in
    (omega (arith, l, c.decreases), room_is _ _ _ _ c.requires refl (omega (arith, l)) (see_element _ _ _ _ e v _ (omega arith)))

pub on_expr-on_fragment-requires : goal.on_expr-on_fragment-requires
on_expr-on_fragment-requires t c = let e = c.in-Some-eq49.ensures.tag_is in let v = c.in-Some-eq49.ensures.body_is in let l = c.in-Some-eq49.ensures.sizes in
    (omega (arith, l, c.decreases), room_is _ _ _ _ c.requires refl (omega (arith, l)) (see_fragment _ _ _ _ e v _ (omega arith)))

pub on_expr-literal_leaf-requires : goal.on_expr-literal_leaf-requires
on_expr-literal_leaf-requires t c = literal_room _ _ _ _ refl (elim c.in_default.branch [ on_expr-in_default-via-in-Some+in_default w ↦ let f = front_some c.field_at.ensures w.in_default.is in expr_literal _ _ _ _ f.tag_is (λ z. absurd (omega (arith, f.tag_below, z))) (λ z. grind arith) (λ z. grind arith) (λ z. grind arith) (λ z. grind arith) | on_expr-in_default-via-in_default w ↦ let f = front_none c.field_at.ensures w.in_default.is in expr_literal _ _ _ _ f.no_tag (λ z. f.ended) (λ z. omega arith) (λ z. omega arith) (λ z. omega arith) (λ z. omega arith) ]) _ _ _ c.requires.low

pub on_expr-returns-in-Some-eq118 : goal.on_expr-returns-in-Some-eq118
on_expr-returns-in-Some-eq118 t c = array_done _ _ _ _ c.in-Some-eq118.ensures.tag_is c.in-Some-eq118.ensures.body_is (omega arith) _ _ _ c.begin.ensures c.on_items-x.ensures c.close.ensures

pub on_expr-returns-in-Some-eq121 : goal.on_expr-returns-in-Some-eq121
on_expr-returns-in-Some-eq121 t c = source_done _ _ _ _ c.in-Some-eq121.ensures.tag_is c.in-Some-eq121.ensures.body_is (omega arith) _ _ _ c.begin-in-Some-eq121.ensures c.on_pieces-x.ensures c.close-in-Some-eq121.ensures

pub on_expr-returns-in-Some-eq48 : goal.on_expr-returns-in-Some-eq48
on_expr-returns-in-Some-eq48 t c = c.on_jsx.ensures ∙ see_element _ _ _ _ c.in-Some-eq48.ensures.tag_is c.in-Some-eq48.ensures.body_is _ (omega arith)

pub on_expr-returns-in-Some-eq49 : goal.on_expr-returns-in-Some-eq49
on_expr-returns-in-Some-eq49 t c = c.on_fragment.ensures ∙ see_fragment _ _ _ _ c.in-Some-eq49.ensures.tag_is c.in-Some-eq49.ensures.body_is _ (omega arith)

pub on_expr-returns-in_default : goal.on_expr-returns-in_default
on_expr-returns-in_default t c = literal_done _ _ _ _ refl (elim c.in_default.branch [ on_expr-in_default-via-in-Some+in_default w ↦ let f = front_some c.field_at.ensures w.in_default.is in expr_literal _ _ _ _ f.tag_is (λ z. absurd (omega (arith, f.tag_below, z))) (λ z. grind arith) (λ z. grind arith) (λ z. grind arith) (λ z. grind arith) | on_expr-in_default-via-in_default w ↦ let f = front_none c.field_at.ensures w.in_default.is in expr_literal _ _ _ _ f.no_tag (λ z. f.ended) (λ z. omega arith) (λ z. omega arith) (λ z. omega arith) (λ z. omega arith) ]) _ _ _ c.literal_leaf.ensures

pub on_found-leave-requires : goal.on_found-leave-requires
on_found-leave-requires t c = left_room _ _ _ _ (found_left _ _ _ _ (c.found_of-f.ensures.1 c.args.options.now.props.now) _ (sym c.is_left.ensures ∙ c.if-is_left.true)) c.requires.low

pub on_found-returns-then-is_left : goal.on_found-returns-then-is_left
on_found-returns-then-is_left t c = left_done _ _ _ _ (found_left _ _ _ _ (c.found_of-f.ensures.1 c.args.options.now.props.now) _ (sym c.is_left.ensures ∙ c.if-is_left.true)) _ _ c.leave.ensures

pub on_found-record_found-k-requires : goal.on_found-record_found-k-requires
on_found-record_found-k-requires t c = record { desk = c.requires.desk; short = c.requires.short; low = found_recorded _ _ _ _ (record { within = c.found_of-f.ensures.0; finds = c.found_of-f.ensures.1 c.args.options.now.props.now }) (sym c.is_left.ensures ∙ c.if-is_left.false) _ _ _ c.records_of.ensures c.requires.low }

pub on_found-to_found-w-requires : goal.on_found-to_found-w-requires
on_found-to_found-w-requires t c = (
  omega (arith, c.decreases),
  (
    record { within = c.found_of-f.ensures.0; finds = c.found_of-f.ensures.1 c.args.options.now.props.now },
    record {
      desk = omega (arith, c.requires.desk, c.record_found-k.auto.scratch);
      short = c.requires.short;
      low = found_paged _ _ _ _ (record { within = c.found_of-f.ensures.0; finds = c.found_of-f.ensures.1 c.args.options.now.props.now }) (sym c.is_left.ensures ∙ c.if-is_left.false) _ _ _ c.records_of.ensures c.record_found-k.ensures c.recorded-a.ensures c.requires.low;
    },
  ),
)

pub on_found-returns : goal.on_found-returns
on_found-returns t c = found_done _ _ _ _ (record { within = c.found_of-f.ensures.0; finds = c.found_of-f.ensures.1 c.args.options.now.props.now }) (sym c.is_left.ensures ∙ c.if-is_left.false) _ _ _ c.records_of.ensures c.record_found-k.ensures c.recorded-a.ensures c.to_found-w.ensures c.returned.ensures

pub on_fragment-leaf-requires : goal.on_fragment-leaf-requires
on_fragment-leaf-requires t c = null_room _ _ _ _ (fragment_null _ _ _ _ (sym c.in-Zero.ensures.count) refl) c.requires.low

pub on_fragment-on_jsx-requires : goal.on_fragment-on_jsx-requires
on_fragment-on_jsx-requires t c = let o = c.in-One-eq48.ensures.only in (
  omega (arith, c.decreases, o.front.sizes, o.within),
  record {
    desk = c.requires.desk;
    short = omega (arith, c.requires.short, o.front.sizes, o.within);
    low = low_is (sym (fragment_element _ _ _ _ (sym c.in-One-eq48.ensures.count) refl c.in-One-eq48.ensures.only.first c.in-One-eq48.ensures.only.front.tag_is c.in-One-eq48.ensures.only.front.body_is (omega arith))) c.requires.low;
  },
)

pub on_fragment-on_found-requires : goal.on_fragment-on_found-requires
on_fragment-on_found-requires t c = let o = c.in-One-eq49.ensures.only in (
  omega (arith, c.decreases, o.front.sizes, o.within),
  record {
    desk = c.requires.desk;
    short = omega (arith, c.requires.short, o.front.sizes, o.within);
    low = low_is (sym (fragment_fragment _ _ _ _ (sym c.in-One-eq49.ensures.count) refl c.in-One-eq49.ensures.only.first c.in-One-eq49.ensures.only.front.tag_is c.in-One-eq49.ensures.only.front.body_is (omega arith))) c.requires.low;
  },
)

pub on_fragment-leave-requires : goal.on_fragment-leave-requires
on_fragment-leave-requires t c = left_room _ _ _ _ (fragment_spread _ _ _ _ (sym c.in-One-eq97.ensures.count) refl c.in-One-eq97.ensures.only.first c.in-One-eq97.ensures.only.front.tag_is c.in-One-eq97.ensures.only.front.body_is (omega arith)) c.requires.low

pub on_fragment-on_template-requires : goal.on_fragment-on_template-requires
on_fragment-on_template-requires t c = (omega (arith, c.decreases), record { desk = c.requires.desk; short = c.requires.short; low = low_is (sym (let o = c.in-One.ensures.only in fragment_only _ _ _ _ (sym c.in-One.ensures.count) refl o.first o.front.tag_is o.front.body_is (λ z. grind arith) (λ z. grind arith) (λ z. grind arith))) c.requires.low })

pub on_fragment-on_template-requires-in-More : goal.on_fragment-on_template-requires-in-More
on_fragment-on_template-requires-in-More t c = (omega (arith, c.decreases), record { desk = c.requires.desk; short = c.requires.short; low = low_is (sym (fragment_several _ _ _ _ (sym c.in-More.ensures.count) refl)) c.requires.low })

pub on_fragment-returns-in-Zero : goal.on_fragment-returns-in-Zero
on_fragment-returns-in-Zero t c = null_done _ _ _ _ (fragment_null _ _ _ _ (sym c.in-Zero.ensures.count) refl) _ _ c.leaf.ensures

pub on_fragment-returns-in-One-eq48 : goal.on_fragment-returns-in-One-eq48
on_fragment-returns-in-One-eq48 t c = c.on_jsx.ensures ∙ sym (fragment_element _ _ _ _ (sym c.in-One-eq48.ensures.count) refl c.in-One-eq48.ensures.only.first c.in-One-eq48.ensures.only.front.tag_is c.in-One-eq48.ensures.only.front.body_is (omega arith))

pub on_fragment-returns-in-One-eq49 : goal.on_fragment-returns-in-One-eq49
on_fragment-returns-in-One-eq49 t c = c.on_found.ensures ∙ sym (fragment_fragment _ _ _ _ (sym c.in-One-eq49.ensures.count) refl c.in-One-eq49.ensures.only.first c.in-One-eq49.ensures.only.front.tag_is c.in-One-eq49.ensures.only.front.body_is (omega arith))

pub on_fragment-returns-in-One-eq97 : goal.on_fragment-returns-in-One-eq97
on_fragment-returns-in-One-eq97 t c = left_done _ _ _ _ (fragment_spread _ _ _ _ (sym c.in-One-eq97.ensures.count) refl c.in-One-eq97.ensures.only.first c.in-One-eq97.ensures.only.front.tag_is c.in-One-eq97.ensures.only.front.body_is (omega arith)) _ _ c.leave.ensures

pub on_fragment-returns-in-One : goal.on_fragment-returns-in-One
on_fragment-returns-in-One t c = c.on_template.ensures ∙ sym (let o = c.in-One.ensures.only in fragment_only _ _ _ _ (sym c.in-One.ensures.count) refl o.first o.front.tag_is o.front.body_is (λ z. grind arith) (λ z. grind arith) (λ z. grind arith))

pub on_fragment-returns-in-More : goal.on_fragment-returns-in-More
on_fragment-returns-in-More t c = c.on_template-in-More.ensures ∙ sym (fragment_several _ _ _ _ (sym c.in-More.ensures.count) refl)

pub on_held-returns-in-None : goal.on_held-returns-in-None
on_held-returns-in-None t c = held_nothing _ _ _ _ c.in-None.ensures.ended

pub on_held-on_expr-requires : goal.on_held-on_expr-requires
on_held-on_expr-requires t c = let f = c.in-Some.ensures in (omega (arith, c.decreases), room_is _ _ _ _ c.requires refl (le_refl _) (held_expr _ _ _ _ _ refl (λ z. omega (arith, f.tag_is, f.tag_below, z))))

pub on_held-returns-in-Some : goal.on_held-returns-in-Some
on_held-returns-in-Some t c = let f = c.in-Some.ensures in c.on_expr.ensures ∙ held_expr _ _ _ _ _ refl (λ z. omega (arith, f.tag_is, f.tag_below, z))

pub on_items-begin-requires : goal.on_items-begin-requires
on_items-begin-requires t c = spread_begin _ _ _ _ c.in-Some.ensures.steps.tag_is _ _ _ c.loop-field.invariant.1.1 c.in-119.is c.in-Some.ensures.steps.body_is c.requires.low

pub on_items-on_expr-x-requires : goal.on_items-on_expr-x-requires
on_items-on_expr-x-requires t c = let e = c.in-Some.ensures.steps.tag_is in let i = c.loop-field.invariant in let l = c.in-Some.ensures.steps.sizes in
    (omega (arith, l, i.1.0, c.decreases), room_part _ _ _ _ c.requires c.loop-field.auto.scratch (omega (arith, l, i.1.0)) (spread_inner _ _ _ _ e _ _ _ i.1.1 c.in-119.is c.in-Some.ensures.steps.body_is c.begin.ensures c.requires.low))

pub on_items-close-cur-requires : goal.on_items-close-cur-requires
on_items-close-cur-requires t c = spread_close _ _ _ _ c.in-Some.ensures.steps.tag_is _ _ _ c.loop-field.invariant.1.1 c.in-119.is c.in-Some.ensures.steps.body_is c.begin.ensures c.on_expr-x.ensures c.requires.low

pub on_items-loop-field-preserved-in-119 : goal.on_items-loop-field-preserved-in-119
on_items-loop-field-preserved-in-119 t c = let e = c.in-Some.ensures.steps.tag_is in let i = c.loop-field.invariant in let l = c.in-Some.ensures.steps.sizes in
    (refl, (omega (arith, l, i.1.0), spread_on _ _ _ _ e _ _ _ i.1.1 c.in-119.is c.in-Some.ensures.steps.body_is c.begin.ensures c.on_expr-x.ensures c.in-Some.ensures.steps.behind_is c.close-cur.ensures))

pub on_items-leaf-cur-requires : goal.on_items-leaf-cur-requires
on_items-leaf-cur-requires t c = hole_room _ _ _ _ c.in-Some.ensures.steps.tag_is _ _ _ c.loop-field.invariant.1.1 c.in-120.is c.requires.low

pub on_items-loop-field-preserved-in-120 : goal.on_items-loop-field-preserved-in-120
on_items-loop-field-preserved-in-120 t c = let e = c.in-Some.ensures.steps.tag_is in let i = c.loop-field.invariant in let l = c.in-Some.ensures.steps.sizes in
    (refl, (omega (arith, l, i.1.0), hole_on _ _ _ _ e _ _ _ i.1.1 c.in-120.is c.in-Some.ensures.steps.behind_is c.leaf-cur.ensures))

pub on_items-returns : goal.on_items-returns
on_items-returns t c = items_end _ _ _ _ c.in_default.ensures.steps.no_tag _ c.loop-field.invariant.1.1 c.in_default.ensures.steps.ended

pub on_items-on_expr-cur-requires : goal.on_items-on_expr-cur-requires
on_items-on_expr-cur-requires t c = let i = c.loop-field.invariant in let l = ap length i.0 in (omega (arith, l, i.1.0, c.decreases), room_part _ _ _ _ c.requires c.loop-field.auto.scratch (omega (arith, l, i.1.0)) (item_room _ _ _ _ c.in-Some.ensures.steps.tag_is _ i.1.1 (λ z. omega (arith, c.in-Some.ensures.steps.tag_below, z)) (λ z. omega arith) (λ z. omega arith) i.0 c.requires.low))

pub on_items-loop-field-preserved : goal.on_items-loop-field-preserved
on_items-loop-field-preserved t c = let e = c.in-Some.ensures.steps.tag_is in let i = c.loop-field.invariant in let l = c.in-Some.ensures.steps.sizes in
    (refl, (omega (arith, l, i.1.0), item_on _ _ _ _ e _ i.1.1 (λ z. omega (arith, c.in-Some.ensures.steps.tag_below, z)) (λ z. omega arith) (λ z. omega arith) i.0 c.in-Some.ensures.steps.behind_is c.on_expr-cur.ensures))

pub on_jsx-record_serialize-k-requires : goal.on_jsx-record_serialize-k-requires
on_jsx-record_serialize-k-requires t c = record { desk = c.requires.desk; short = c.requires.short; low = element_recorded _ _ _ _ _ _ c.records_of.ensures c.requires.low }

pub on_jsx-to_jsx-w-requires : goal.on_jsx-to_jsx-w-requires
on_jsx-to_jsx-w-requires t c = (
  omega (arith, c.decreases),
  record {
    desk = omega (arith, c.requires.desk, c.record_serialize-k.auto.scratch);
    short = c.requires.short;
    low = element_paged _ _ _ _ _ _ c.records_of.ensures c.record_serialize-k.ensures c.recorded.ensures c.requires.low;
  },
)

pub on_jsx-returns : goal.on_jsx-returns
on_jsx-returns t c = element_done _ _ _ _ _ _ c.records_of.ensures c.record_serialize-k.ensures c.recorded.ensures c.to_jsx-w.ensures c.returned.ensures

pub on_pieces-leaf-cur-requires : goal.on_pieces-leaf-cur-requires
on_pieces-leaf-cur-requires t c = piece_room _ _ _ _ c.in-Some.ensures.steps.tag_is _ _ _ c.loop-field.invariant.1 c.in-32.is c.in-Some.ensures.steps.body_is c.requires.low

pub on_pieces-loop-field-preserved-in-32 : goal.on_pieces-loop-field-preserved-in-32
on_pieces-loop-field-preserved-in-32 t c = let e = c.in-Some.ensures.steps.tag_is in let i = c.loop-field.invariant in let l = c.in-Some.ensures.steps.sizes in
    (omega (arith, l, i.0), piece_on _ _ _ _ e _ _ _ i.1 c.in-32.is c.in-Some.ensures.steps.body_is c.in-Some.ensures.steps.behind_is c.leaf-cur.ensures)

pub on_pieces-on_jsx-cur-requires : goal.on_pieces-on_jsx-cur-requires
on_pieces-on_jsx-cur-requires t c = let e = c.in-Some.ensures.steps.tag_is in let i = c.loop-field.invariant in let l = c.in-Some.ensures.steps.sizes in
    (omega (arith, l, i.0, c.decreases), room_part _ _ _ _ c.requires c.loop-field.auto.scratch (omega (arith, l, i.0)) (piece_element_room _ _ _ _ e _ i.1 c.in-Some.ensures.steps.body_is c.in-48.is c.requires.low))

pub on_pieces-loop-field-preserved-in-48 : goal.on_pieces-loop-field-preserved-in-48
on_pieces-loop-field-preserved-in-48 t c = let e = c.in-Some.ensures.steps.tag_is in let i = c.loop-field.invariant in let l = c.in-Some.ensures.steps.sizes in
    (omega (arith, l, i.0), piece_element_on _ _ _ _ e _ i.1 c.in-Some.ensures.steps.body_is c.in-48.is c.in-Some.ensures.steps.behind_is c.on_jsx-cur.ensures)

pub on_pieces-on_fragment-cur-requires : goal.on_pieces-on_fragment-cur-requires
on_pieces-on_fragment-cur-requires t c = let e = c.in-Some.ensures.steps.tag_is in let i = c.loop-field.invariant in let l = c.in-Some.ensures.steps.sizes in
    (omega (arith, l, i.0, c.decreases), room_part _ _ _ _ c.requires c.loop-field.auto.scratch (omega (arith, l, i.0)) (piece_fragment_room _ _ _ _ e _ i.1 c.in-Some.ensures.steps.body_is c.in-49.is c.requires.low))

pub on_pieces-loop-field-preserved-in-49 : goal.on_pieces-loop-field-preserved-in-49
on_pieces-loop-field-preserved-in-49 t c = let e = c.in-Some.ensures.steps.tag_is in let i = c.loop-field.invariant in let l = c.in-Some.ensures.steps.sizes in
    (omega (arith, l, i.0), piece_fragment_on _ _ _ _ e _ i.1 c.in-Some.ensures.steps.body_is c.in-49.is c.in-Some.ensures.steps.behind_is c.on_fragment-cur.ensures)

pub on_pieces-returns : goal.on_pieces-returns
on_pieces-returns t c = pieces_end _ _ _ _ c.in-None.ensures.steps.no_tag _ c.loop-field.invariant.1 (c.in-None.ensures.steps.ended)

pub on_pieces-loop-field-preserved : goal.on_pieces-loop-field-preserved
on_pieces-loop-field-preserved t c = let e = c.in-Some.ensures.steps.tag_is in let i = c.loop-field.invariant in let l = c.in-Some.ensures.steps.sizes in
    (omega (arith, l, i.0), pieces_past _ _ _ _ e _ i.1 (λ z. omega (arith, c.in-Some.ensures.steps.tag_below, z)) (λ z. omega arith) (λ z. omega arith) (λ z. omega arith) c.in-Some.ensures.steps.behind_is)

pub on_template-record_fragment-k-requires : goal.on_template-record_fragment-k-requires
on_template-record_fragment-k-requires t c = record { desk = c.requires.desk; short = c.requires.short; low = template_recorded _ _ _ _ _ _ c.records_of.ensures c.requires.low }

pub on_template-begin_template-a-requires : goal.on_template-begin_template-a-requires
on_template-begin_template-a-requires t c = template_start _ _ _ _ _ _ c.records_of.ensures c.record_fragment-k.ensures c.recorded.ensures c.requires.low

pub on_template-to_parts-c-requires : goal.on_template-to_parts-c-requires
on_template-to_parts-c-requires t c = (
  omega (arith, c.decreases),
  record {
    desk = omega (arith, c.requires.desk, c.record_fragment-k.auto.scratch);
    short = c.requires.short;
    low = template_parts _ _ _ _ _ _ c.records_of.ensures c.record_fragment-k.ensures c.recorded.ensures c.begin_template-a.ensures c.requires.low;
  },
)

pub on_template-close-d-requires : goal.on_template-close-d-requires
on_template-close-d-requires t c = template_end _ _ _ _ _ _ c.records_of.ensures c.record_fragment-k.ensures c.recorded.ensures c.begin_template-a.ensures c.to_parts-c.ensures c.requires.low

pub on_template-returns : goal.on_template-returns
on_template-returns t c = template_visited _ _ _ _ _ _ c.records_of.ensures c.record_fragment-k.ensures c.recorded.ensures c.begin_template-a.ensures c.to_parts-c.ensures c.close-d.ensures c.returned.ensures

pub to_attrs-attribute_front-x-requires : goal.to_attrs-attribute_front-x-requires
to_attrs-attribute_front-x-requires t c = let w = at c.loop-a.templates c.loop-a.page c.loop-a.cur in let i = c.loop-a.invariant in let f = c.in-Some.ensures.steps in
    gap_front_room _ _ 0x91 (λ b. b) _ _ w (attr_low _ _ _ w i.1 f c.in-Gap.gap c.in-Gap.ensures.is c.requires.low)

pub to_attrs-on_held-y-requires : goal.to_attrs-on_held-y-requires
to_attrs-on_held-y-requires t c = let w = at c.loop-a.templates c.loop-a.page c.loop-a.cur in let i = c.loop-a.invariant in let f = c.in-Some.ensures.steps in (
  omega (arith, c.in-Gap.ensures.within, ap length c.held.ensures, f.sizes, i.0, c.decreases),
  record {
    desk = omega (arith, c.loop-a.auto.scratch, c.requires.desk);
    short = omega (arith, c.in-Gap.ensures.within, ap length c.held.ensures, f.sizes, i.0, c.requires.short);
    low = gap_held_room _ _ 0x91 (λ b. b) _ _ w c.attribute_front-x.ensures c.held.ensures (attr_low _ _ _ w i.1 f c.in-Gap.gap c.in-Gap.ensures.is c.requires.low);
  },
)

pub to_attrs-gap_back-cur-requires : goal.to_attrs-gap_back-cur-requires
to_attrs-gap_back-cur-requires t c = let w = at c.loop-a.templates c.loop-a.page c.loop-a.cur in let i = c.loop-a.invariant in let f = c.in-Some.ensures.steps in
    gap_back_room _ _ 0x91 (λ b. b) _ _ w c.attribute_front-x.ensures c.held.ensures c.on_held-y.ensures (attr_low _ _ _ w i.1 f c.in-Gap.gap c.in-Gap.ensures.is c.requires.low)

pub to_attrs-loop-a-preserved-in-Gap : goal.to_attrs-loop-a-preserved-in-Gap
to_attrs-loop-a-preserved-in-Gap t c = let w = at c.loop-a.templates c.loop-a.page c.loop-a.cur in let i = c.loop-a.invariant in let f = c.in-Some.ensures.steps in
    (omega (arith, f.sizes, i.0), attr_on _ _ _ w i.1 f c.in-Gap.gap c.in-Gap.ensures.is (gap_done _ _ 0x91 (λ b. b) _ _ w c.attribute_front-x.ensures c.held.ensures c.on_held-y.ensures c.gap_back-cur.ensures))

pub to_attrs-loop-a-preserved : goal.to_attrs-loop-a-preserved
to_attrs-loop-a-preserved t c = let w = at c.loop-a.templates c.loop-a.page c.loop-a.cur in let i = c.loop-a.invariant in let f = c.in-Some.ensures.steps in
    (omega (arith, f.sizes, i.0), attr_past _ _ _ w i.1 f c.in_tag.result c.in_default.not-Gap c.in_tag.ensures.is)

pub to_attrs-returns : goal.to_attrs-returns
to_attrs-returns t c = attrs_end _ _ _ _ c.loop-a.invariant.1 c.in-None.ensures.steps

pub to_entries-join_text-run-requires : goal.to_entries-join_text-run-requires
to_entries-join_text-run-requires t c = text_room _ _ _ c.loop-field.invariant.2 _ c.in-Some.ensures.steps.tag_is c.in-Some.ensures.steps.body_is c.in-96.is c.requires.room.low

pub to_entries-loop-field-init : goal.to_entries-loop-field-init
to_entries-loop-field-init t c = rw c.into_iter-field-iterator.ensures.into_iter_gives (le_refl _, c.requires.known, entering_start _ _ _ _ _ _ _ refl)

pub to_entries-loop-field-preserved-in-96 : goal.to_entries-loop-field-preserved-in-96
to_entries-loop-field-preserved-in-96 t c = let i = c.loop-field.invariant in let tag = c.in-Some.ensures.steps.tag_is in let l = c.in-Some.ensures.steps.sizes in
    (omega (arith, l, i.0), known_behind c.in-Some.ensures.steps _ _ _ i.1, text_on _ _ _ i.2 _ tag c.in-Some.ensures.steps.body_is c.in-96.is c.in-Some.ensures.steps.behind_is c.join_text-run.ensures)

pub to_entries-join_container-run-requires : goal.to_entries-join_container-run-requires
to_entries-join_container-run-requires t c = joined_room _ _ _ c.loop-field.invariant.2 _ c.in-Some.ensures.steps.tag_is c.in-Some.ensures.steps.body_is c.in-82.is c.in-Text.ensures c.requires.room.low

pub to_entries-loop-field-preserved-in-Text : goal.to_entries-loop-field-preserved-in-Text
to_entries-loop-field-preserved-in-Text t c = let i = c.loop-field.invariant in let tag = c.in-Some.ensures.steps.tag_is in let l = c.in-Some.ensures.steps.sizes in
    (omega (arith, l, i.0), known_behind c.in-Some.ensures.steps _ _ _ i.1, joined_on _ _ _ i.2 _ tag c.in-Some.ensures.steps.body_is c.in-82.is c.in-Text.ensures c.in-Some.ensures.steps.behind_is c.join_container-run.ensures)

pub to_entries-flush-a-requires : goal.to_entries-flush-a-requires
to_entries-flush-a-requires t c = expr_run _ _ _ c.loop-field.invariant.2 _ c.in-Some.ensures.steps.tag_is c.in-Some.ensures.steps.body_is c.in-82.is c.in-Gap.ensures c.requires.room.low

pub to_entries-on_expr-cur-requires : goal.to_entries-on_expr-cur-requires
to_entries-on_expr-cur-requires t c = let i = c.loop-field.invariant in let tag = c.in-Some.ensures.steps.tag_is in let l = c.in-Some.ensures.steps.sizes in
    (omega (arith, l, i.0, c.decreases), record { desk = omega (arith, c.loop-field.auto.scratch, c.requires.room.desk); short = omega (arith, l, i.0, c.requires.room.short); low = expr_room _ _ _ i.2 _ tag c.in-Some.ensures.steps.body_is c.in-82.is c.in-Gap.ensures c.flush-a.ensures c.requires.room.low })

pub to_entries-loop-field-preserved-in-Gap : goal.to_entries-loop-field-preserved-in-Gap
to_entries-loop-field-preserved-in-Gap t c = let i = c.loop-field.invariant in let tag = c.in-Some.ensures.steps.tag_is in let l = c.in-Some.ensures.steps.sizes in
    (omega (arith, l, i.0), known_behind c.in-Some.ensures.steps _ _ _ i.1, expr_on _ _ _ i.2 _ tag c.in-Some.ensures.steps.body_is c.in-82.is c.in-Gap.ensures c.flush-a.ensures c.in-Some.ensures.steps.behind_is c.on_expr-cur.ensures)

pub to_entries-flush-a-requires-in-48 : goal.to_entries-flush-a-requires-in-48
to_entries-flush-a-requires-in-48 t c = element_run _ _ _ c.loop-field.invariant.2 _ c.in-Some.ensures.steps.tag_is c.in-48.is c.requires.room.low

pub to_entries-to_jsx-cur-requires : goal.to_entries-to_jsx-cur-requires
to_entries-to_jsx-cur-requires t c = let i = c.loop-field.invariant in let tag = c.in-Some.ensures.steps.tag_is in let l = c.in-Some.ensures.steps.sizes in
    (omega (arith, l, i.0, c.decreases), record { desk = omega (arith, c.loop-field.auto.scratch, c.requires.room.desk); short = omega (arith, l, i.0, c.requires.room.short); low = element_room _ _ _ i.2 _ tag c.in-Some.ensures.steps.body_is c.in-48.is c.flush-a-in-48.ensures c.requires.room.low })

pub to_entries-loop-field-preserved-in-48 : goal.to_entries-loop-field-preserved-in-48
to_entries-loop-field-preserved-in-48 t c = let i = c.loop-field.invariant in let tag = c.in-Some.ensures.steps.tag_is in let l = c.in-Some.ensures.steps.sizes in
    (omega (arith, l, i.0), known_behind c.in-Some.ensures.steps _ _ _ i.1, element_on _ _ _ i.2 _ tag c.in-Some.ensures.steps.body_is c.in-48.is c.flush-a-in-48.ensures c.in-Some.ensures.steps.behind_is c.to_jsx-cur.ensures)

pub to_entries-flush-a-requires-in-49 : goal.to_entries-flush-a-requires-in-49
to_entries-flush-a-requires-in-49 t c = fragment_run _ _ _ c.loop-field.invariant.2 _ c.in-Some.ensures.steps.tag_is c.in-49.is c.requires.room.low

pub to_entries-found_in-f-requires : goal.to_entries-found_in-f-requires
to_entries-found_in-f-requires t c = let i = c.loop-field.invariant in let f = c.in-Some.ensures.steps in
    (omega (arith, f.sizes, i.0, c.requires.room.short), known_front f _ _ _ i.1 c.in-49.is)

pub to_entries-to_found-cur-requires : goal.to_entries-to_found-cur-requires
to_entries-to_found-cur-requires t c = let i = c.loop-field.invariant in let tag = c.in-Some.ensures.steps.tag_is in let l = c.in-Some.ensures.steps.sizes in
    (omega (arith, l, i.0, c.decreases), (record { within = c.found_in-f.ensures.0; finds = c.found_in-f.ensures.1 c.args.options.now.props.now }, record { desk = omega (arith, c.loop-field.auto.scratch, c.requires.room.desk); short = omega (arith, l, i.0, c.requires.room.short); low = fragment_room _ _ _ i.2 _ tag c.in-Some.ensures.steps.body_is c.in-49.is c.flush-a-in-49.ensures c.requires.room.low }))

pub to_entries-loop-field-preserved-in-49 : goal.to_entries-loop-field-preserved-in-49
to_entries-loop-field-preserved-in-49 t c = let i = c.loop-field.invariant in let tag = c.in-Some.ensures.steps.tag_is in let l = c.in-Some.ensures.steps.sizes in
    (omega (arith, l, i.0), known_behind c.in-Some.ensures.steps _ _ _ i.1, fragment_on _ _ _ i.2 _ tag c.in-Some.ensures.steps.body_is c.in-49.is c.flush-a-in-49.ensures c.in-Some.ensures.steps.behind_is c.to_found-cur.ensures)

pub to_entries-flush-requires : goal.to_entries-flush-requires
to_entries-flush-requires t c = last_run _ _ _ c.loop-field.invariant.2 (c.in-None.ensures.steps.ended) c.requires.room.low

pub to_entries-returns : goal.to_entries-returns
to_entries-returns t c = entering_end _ _ _ c.loop-field.invariant.2 (c.in-None.ensures.steps.ended) c.flush.ensures

pub to_entries-loop-field-preserved : goal.to_entries-loop-field-preserved
to_entries-loop-field-preserved t c = let i = c.loop-field.invariant in let tag = c.in-Some.ensures.steps.tag_is in (omega (arith, c.in-Some.ensures.steps.sizes, i.0), known_behind c.in-Some.ensures.steps _ _ _ i.1, other_on _ _ _ i.2 _ tag c.in-Some.ensures.steps.behind_is (λ q. omega (arith, c.in-Some.ensures.steps.tag_below, q)) (λ z. omega arith) (λ z. omega arith) (λ z. omega arith) (λ z. omega arith))

pub to_found-text_leaf-requires : goal.to_found-text_leaf-requires
to_found-text_leaf-requires t c = to_found_text_room c.requires.0 c.part-u.ensures _ _ _ _ c.in-Text.is c.body.ensures c.requires.1.low

pub to_found-to_jsx-requires : goal.to_found-to_jsx-requires
to_found-to_jsx-requires t c = (omega (arith, element_short c.requires.0 c.part-u.ensures c.in-Element.is c.body-in-Element.ensures, c.decreases), to_found_element_room c.requires.0 c.part-u.ensures _ _ _ _ c.in-Element.is c.body-in-Element.ensures c.requires.1)

pub to_found-begin_template-a-requires : goal.to_found-begin_template-a-requires
to_found-begin_template-a-requires t c = merged_begin c.requires.0 c.part-u.ensures _ _ _ _ c.in-Template.is c.requires.1.low

pub to_found-to_parts-c-requires : goal.to_found-to_parts-c-requires
to_found-to_parts-c-requires t c = (omega (arith, found_short c.requires.0 c.part-u.ensures, c.decreases), merged_room c.requires.0 c.part-u.ensures _ _ _ _ c.in-Template.is c.begin_template-a.ensures c.requires.1)

pub to_found-close-requires : goal.to_found-close-requires
to_found-close-requires t c = merged_end c.requires.0 c.part-u.ensures _ _ _ _ c.in-Template.is c.begin_template-a.ensures c.to_parts-c.ensures c.requires.1.low

pub to_found-to_entries-requires : goal.to_found-to_entries-requires
to_found-to_entries-requires t c = (omega (arith, found_short c.requires.0 c.part-u.ensures, c.decreases), (known_none _ _, run_room c.requires.0 c.part-u.ensures _ _ _ _ c.in-Run.is c.requires.1))

pub to_found-on_items-requires : goal.to_found-on_items-requires
to_found-on_items-requires t c = (omega (arith, items_short c.requires.0 c.part-u.ensures c.in-Some.ensures.body_is, c.decreases), items_room c.requires.0 c.part-u.ensures _ _ _ _ c.in-Expr.is c.in-Some.ensures c.requires.1)

pub to_found-returns-in-Some : goal.to_found-returns-in-Some
to_found-returns-in-Some t c = items_done c.requires.0 c.part-u.ensures _ _ _ _ c.in-Expr.is c.in-Some.ensures c.on_items.ensures

pub to_found-on_expr-requires : goal.to_found-on_expr-requires
to_found-on_expr-requires t c = (omega (arith, found_short c.requires.0 c.part-u.ensures, c.decreases), to_found_expr_room c.requires.0 c.part-u.ensures _ _ _ _ c.in-Expr.is c.in-None.ensures c.requires.1)

pub to_found-to_entries-requires-in-Many : goal.to_found-to_entries-requires-in-Many
to_found-to_entries-requires-in-Many t c = (omega (arith, found_short c.requires.0 c.part-u.ensures, c.decreases), (many_known c.requires.0 c.part-u.ensures c.in-Many.is, many_room c.requires.0 c.part-u.ensures _ _ _ _ c.in-Many.is (spliced_begins c.if-splice.true) c.requires.1))

pub to_found-begin-requires : goal.to_found-begin-requires
to_found-begin-requires t c = many_begin c.requires.0 c.part-u.ensures _ _ _ _ c.in-Many.is c.requires.1.low

pub to_found-to_entries-c-requires : goal.to_found-to_entries-c-requires
to_found-to_entries-c-requires t c = (omega (arith, found_short c.requires.0 c.part-u.ensures, c.decreases), (many_known c.requires.0 c.part-u.ensures c.in-Many-2.is, many_room c.requires.0 c.part-u.ensures _ _ _ _ c.in-Many-2.is (apart_begins _ c.if-splice.false c.begin.ensures) c.requires.1))

pub to_found-close-requires-in-Many-2 : goal.to_found-close-requires-in-Many-2
to_found-close-requires-in-Many-2 t c = apart_closes c.if-splice.false (many_end c.requires.0 c.part-u.ensures _ _ _ _ c.in-Many.is (apart_begins _ c.if-splice.false c.begin.ensures) c.to_entries-c.ensures c.requires.1.low)

pub to_found-begin-requires-in-Empty-2 : goal.to_found-begin-requires-in-Empty-2
to_found-begin-requires-in-Empty-2 t c = empty_begin c.requires.0 c.part-u.ensures _ _ _ _ c.in-Empty.is c.requires.1.low

pub to_found-close-requires-in-Empty-2 : goal.to_found-close-requires-in-Empty-2
to_found-close-requires-in-Empty-2 t c = apart_closes c.if-splice-2.false (empty_end c.requires.0 c.part-u.ensures _ _ _ _ c.in-Empty.is (apart_begins _ c.if-splice-2.false c.begin-in-Empty-2.ensures) c.requires.1.low)

pub to_found-hole_leaf-requires : goal.to_found-hole_leaf-requires
to_found-hole_leaf-requires t c = to_found_hole_room c.requires.0 c.part-u.ensures _ _ _ _ c.in-Hole.is c.requires.1.low

pub to_found-returns-in-Nothing : goal.to_found-returns-in-Nothing
to_found-returns-in-Nothing t c = ⊎_elim (nothing_done c.requires.0 c.part-u.ensures _ _ _ _) (item_done c.requires.0 c.part-u.ensures _ _ _ _) c.in-Nothing.is

pub to_found-returns-in-Text : goal.to_found-returns-in-Text
to_found-returns-in-Text t c = text_done c.requires.0 c.part-u.ensures _ _ _ _ c.in-Text.is c.body.ensures c.text_leaf.ensures

pub to_found-returns-in-Element : goal.to_found-returns-in-Element
to_found-returns-in-Element t c = to_found_element_done c.requires.0 c.part-u.ensures _ _ _ _ c.in-Element.is c.body-in-Element.ensures c.to_jsx.ensures

pub to_found-returns-in-Template : goal.to_found-returns-in-Template
to_found-returns-in-Template t c = merged_done c.requires.0 c.part-u.ensures _ _ _ _ c.in-Template.is c.begin_template-a.ensures c.to_parts-c.ensures c.close.ensures

pub to_found-returns-in-Run : goal.to_found-returns-in-Run
to_found-returns-in-Run t c = run_done c.requires.0 c.part-u.ensures _ _ _ _ c.in-Run.is c.to_entries.ensures

pub to_found-returns-in-None : goal.to_found-returns-in-None
to_found-returns-in-None t c = expr_done c.requires.0 c.part-u.ensures _ _ _ _ c.in-Expr.is c.in-None.ensures c.on_expr.ensures

pub to_found-returns-in-Many : goal.to_found-returns-in-Many
to_found-returns-in-Many t c = many_done c.requires.0 c.part-u.ensures _ _ _ _ c.in-Many.is (spliced_begins c.if-splice.true) c.to_entries-in-Many.ensures (spliced_ends _ c.if-splice.true 0x76 _ _)

pub to_found-returns-in-Many-2 : goal.to_found-returns-in-Many-2
to_found-returns-in-Many-2 t c = many_done c.requires.0 c.part-u.ensures _ _ _ _ c.in-Many.is (apart_begins _ c.if-splice.false c.begin.ensures) c.to_entries-c.ensures (apart_ends _ _ _ c.if-splice.false c.close-in-Many-2.ensures)

pub to_found-returns-in-Empty : goal.to_found-returns-in-Empty
to_found-returns-in-Empty t c = empty_done c.requires.0 c.part-u.ensures _ _ _ _ c.in-Empty.is (spliced_begins c.if-splice-2.true) (spliced_ends _ c.if-splice-2.true 0x76 _ _)

pub to_found-returns-in-Empty-2 : goal.to_found-returns-in-Empty-2
to_found-returns-in-Empty-2 t c = empty_done c.requires.0 c.part-u.ensures _ _ _ _ c.in-Empty.is (apart_begins _ c.if-splice-2.false c.begin-in-Empty-2.ensures) (apart_ends _ _ _ c.if-splice-2.false c.close-in-Empty-2.ensures)

pub to_found-returns-in-Hole : goal.to_found-returns-in-Hole
to_found-returns-in-Hole t c = hole_done c.requires.0 c.part-u.ensures _ _ _ _ c.in-Hole.is c.hole_leaf.ensures

pub to_gaps-to_call-requires : goal.to_gaps-to_call-requires
to_gaps-to_call-requires t c = (omega (arith, c.decreases), record { desk = c.requires.desk; short = c.requires.short; low = low_is (element_call _ _ _ c.is_serializable.ensures _ c.if-is_serializable.false) c.requires.low })

pub to_gaps-returns-else-is_serializable : goal.to_gaps-returns-else-is_serializable
to_gaps-returns-else-is_serializable t c = c.to_call.ensures ∙ element_call _ _ _ c.is_serializable.ensures _ c.if-is_serializable.false

pub to_inner-returns-then-is_empty : goal.to_inner-returns-then-is_empty
to_inner-returns-then-is_empty t c = element_bare _ _ _ refl _ c.requires.html c.behind-rest.ensures (eqb-true _ 0 (sym c.is_empty.ensures ∙ c.if-is_empty.true))

pub to_inner-to_attrs-a-requires : goal.to_inner-to_attrs-a-requires
to_inner-to_attrs-a-requires t c = let l = behind_shorter _ c.behind-rest.ensures in
    (omega (arith, l, c.decreases), record { desk = c.requires.room.desk; short = omega (arith, l, c.requires.room.short); low = attrs_room _ _ _ refl _ c.requires.html c.behind-rest.ensures refl c.requires.room.low })

pub to_inner-to_parts-requires : goal.to_inner-to_parts-requires
to_inner-to_parts-requires t c = let l = inner_shorter _ c.inner_children.ensures in
    (omega (arith, l, c.decreases), record { desk = omega (arith, c.to_attrs-a.auto.scratch, c.requires.room.desk); short = omega (arith, l, c.requires.room.short); low = inner_room _ _ _ refl _ c.requires.html c.behind-rest.ensures c.inner_children.ensures c.to_attrs-a.ensures c.requires.room.low })

pub to_inner-returns : goal.to_inner-returns
to_inner-returns t c = inner_done _ _ _ refl _ c.requires.html c.behind-rest.ensures c.inner_children.ensures c.to_attrs-a.ensures c.to_parts.ensures

pub to_jsx-to_call-requires : goal.to_jsx-to_call-requires
to_jsx-to_call-requires t c = (omega (arith, c.decreases), record { desk = c.requires.desk; short = c.requires.short; low = low_is (jsx_call _ _ _ c.is_serializable.ensures _ c.if-not-is_serializable.true) c.requires.low })

pub to_jsx-returns-then-not-is_serializable : goal.to_jsx-returns-then-not-is_serializable
to_jsx-returns-then-not-is_serializable t c = c.to_call.ensures ∙ jsx_call _ _ _ c.is_serializable.ensures _ c.if-not-is_serializable.true

pub to_jsx-begin_template-a-requires : goal.to_jsx-begin_template-a-requires
to_jsx-begin_template-a-requires t c = let w = at c.args.templates.now c.args.page.now c.args.st in
    let g = jsx_template _ _ _ c.is_serializable.ensures w c.if-not-is_serializable.false in
    template_room _ w g c.requires.low

pub to_jsx-to_inner-c-requires : goal.to_jsx-to_inner-c-requires
to_jsx-to_inner-c-requires t c = let w = at c.args.templates.now c.args.page.now c.args.st in
    let g = jsx_template _ _ _ c.is_serializable.ensures w c.if-not-is_serializable.false in
    let e = lift_numbered c.args.templates.now c.args.page.now _ c.args.st _ c.begin_template-a.ensures in
    (omega (arith, c.decreases), (sym c.is_serializable.ensures ∙ c.if-not-is_serializable.false, record { desk = c.requires.desk; short = c.requires.short; low = template_inside _ w g e c.requires.low }))

pub to_jsx-close-requires : goal.to_jsx-close-requires
to_jsx-close-requires t c = let w = at c.args.templates.now c.args.page.now c.args.st in
    let g = jsx_template _ _ _ c.is_serializable.ensures w c.if-not-is_serializable.false in
    let e = lift_numbered c.args.templates.now c.args.page.now _ c.args.st _ c.begin_template-a.ensures in
    (template_page _ w g e c.to_inner-c.ensures, template_low _ w g e c.to_inner-c.ensures c.requires.low)

pub to_jsx-returns : goal.to_jsx-returns
to_jsx-returns t c = let w = at c.args.templates.now c.args.page.now c.args.st in
    let g = jsx_template _ _ _ c.is_serializable.ensures w c.if-not-is_serializable.false in
    let e = lift_numbered c.args.templates.now c.args.page.now _ c.args.st _ c.begin_template-a.ensures in
    template_done _ w g e c.to_inner-c.ensures (lift_wrap c.to_inner-c.new.templates c.to_inner-c.new.page _ c.to_inner-c.result _ 0x90 c.args.st.page c.close.ensures)

pub to_parts-begin_if-x-requires : goal.to_parts-begin_if-x-requires
to_parts-begin_if-x-requires t c = omega (arith, (parts_room _ _ _ _ c.in-Some.ensures.steps.tag_is _ c.loop-field.invariant.1 c.requires.low).low_page)

pub to_parts-loop-field-init : goal.to_parts-loop-field-init
to_parts-loop-field-init t c = rw c.into_iter-field-iterator.ensures.into_iter_gives (le_refl _, sym (parts_direct false _ _))

pub to_parts-on_expr-y-requires : goal.to_parts-on_expr-y-requires
to_parts-on_expr-y-requires t c = let e = lift_begun_if c.loop-field.templates c.in-Gap.wrapped c.loop-field.page c.loop-field.cur c.begin_if-x.result c.begin_if-x.ensures in
    let b = c.in-Some.ensures.steps.sizes in
    (omega (arith, b, c.loop-field.invariant.0, c.decreases), record { desk = omega (arith, c.loop-field.auto.scratch, c.requires.desk); short = omega (arith, b, c.loop-field.invariant.0, c.requires.short); low = container_room _ _ _ _ c.in-Some.ensures.steps.tag_is _ c.loop-field.invariant.1 c.in-82.is c.in-Some.ensures.steps.body_is c.in-Gap.ensures e c.requires.low })

pub to_parts-close_if-cur-requires : goal.to_parts-close_if-cur-requires
to_parts-close_if-cur-requires t c = let e = lift_begun_if c.loop-field.templates c.in-Gap.wrapped c.loop-field.page c.loop-field.cur c.begin_if-x.result c.begin_if-x.ensures in
    (container_page _ _ _ _ c.in-Some.ensures.steps.tag_is _ c.loop-field.invariant.1 c.in-82.is c.in-Some.ensures.steps.body_is c.in-Gap.ensures e c.on_expr-y.ensures, container_low _ _ _ _ c.in-Some.ensures.steps.tag_is _ c.loop-field.invariant.1 c.in-82.is c.in-Some.ensures.steps.body_is c.in-Gap.ensures e c.on_expr-y.ensures c.requires.low)

pub to_parts-loop-field-preserved-in-Gap : goal.to_parts-loop-field-preserved-in-Gap
to_parts-loop-field-preserved-in-Gap t c = let e = lift_begun_if c.loop-field.templates c.in-Gap.wrapped c.loop-field.page c.loop-field.cur c.begin_if-x.result c.begin_if-x.ensures in
    (omega (arith, c.in-Some.ensures.steps.sizes, c.loop-field.invariant.0), container_on _ _ _ _ c.in-Some.ensures.steps.tag_is _ c.loop-field.invariant.1 c.in-82.is c.in-Some.ensures.steps.body_is c.in-Gap.ensures e c.on_expr-y.ensures c.in-Some.ensures.steps.behind_is (lift_wrap_if c.on_expr-y.new.templates c.on_expr-y.new.page _ c.on_expr-y.result _ c.in-Gap.wrapped 0x92 c.loop-field.cur.page c.close_if-cur.ensures))

pub to_parts-loop-field-preserved-in_default-as_child : goal.to_parts-loop-field-preserved-in_default-as_child
to_parts-loop-field-preserved-in_default-as_child t c = (omega (arith, c.in-Some.ensures.steps.sizes, c.loop-field.invariant.0), child_past _ _ _ _ c.in-Some.ensures.steps.tag_is _ c.loop-field.invariant.1 c.in-82.is c.in-Some.ensures.steps.body_is c.as_child.result c.in_default-as_child.not-Gap c.as_child.ensures c.in-Some.ensures.steps.behind_is)

pub to_parts-to_gaps-cur-requires : goal.to_parts-to_gaps-cur-requires
to_parts-to_gaps-cur-requires t c = let b = c.in-Some.ensures.steps.sizes in
    (omega (arith, b, c.loop-field.invariant.0, c.decreases), record { desk = omega (arith, c.loop-field.auto.scratch, c.requires.desk); short = omega (arith, b, c.loop-field.invariant.0, c.requires.short); low = to_parts_element_room _ _ _ _ c.in-Some.ensures.steps.tag_is _ c.loop-field.invariant.1 c.in-48.is c.in-Some.ensures.steps.body_is c.requires.low })

pub to_parts-loop-field-preserved-in-48 : goal.to_parts-loop-field-preserved-in-48
to_parts-loop-field-preserved-in-48 t c = (omega (arith, c.in-Some.ensures.steps.sizes, c.loop-field.invariant.0), to_parts_element_on _ _ _ _ c.in-Some.ensures.steps.tag_is _ c.loop-field.invariant.1 c.in-48.is c.in-Some.ensures.steps.body_is c.in-Some.ensures.steps.behind_is c.to_gaps-cur.ensures)

pub to_parts-to_parts-cur-requires : goal.to_parts-to_parts-cur-requires
to_parts-to_parts-cur-requires t c = let b = c.in-Some.ensures.steps.sizes in
    (omega (arith, b, c.loop-field.invariant.0, c.decreases), record { desk = omega (arith, c.loop-field.auto.scratch, c.requires.desk); short = omega (arith, b, c.loop-field.invariant.0, c.requires.short); low = to_parts_fragment_room _ _ _ _ c.in-Some.ensures.steps.tag_is _ c.loop-field.invariant.1 c.in-49.is c.in-Some.ensures.steps.body_is c.requires.low })

pub to_parts-loop-field-preserved-in-49 : goal.to_parts-loop-field-preserved-in-49
to_parts-loop-field-preserved-in-49 t c = (omega (arith, c.in-Some.ensures.steps.sizes, c.loop-field.invariant.0), to_parts_fragment_on _ _ _ _ c.in-Some.ensures.steps.tag_is _ c.loop-field.invariant.1 c.in-49.is c.in-Some.ensures.steps.body_is c.in-Some.ensures.steps.behind_is c.to_parts-cur.ensures)

pub to_parts-returns : goal.to_parts-returns
to_parts-returns t c = parts_end _ _ _ _ c.in-None.ensures.steps.no_tag _ c.loop-field.invariant.1 (c.in-None.ensures.steps.ended)

pub to_parts-loop-field-preserved : goal.to_parts-loop-field-preserved
to_parts-loop-field-preserved t c = (omega (arith, c.in-Some.ensures.steps.sizes, c.loop-field.invariant.0), parts_past _ _ _ _ c.in-Some.ensures.steps.tag_is _ c.loop-field.invariant.1 (λ z. omega (arith, c.in-Some.ensures.steps.tag_below, z)) (λ z. omega arith) (λ z. omega arith) (λ z. omega arith) c.in-Some.ensures.steps.behind_is)

pub to_props-property_front-x-requires : goal.to_props-property_front-x-requires
to_props-property_front-x-requires t c = let w = at c.loop-field.templates c.loop-field.page c.loop-field.cur in let f = c.in-Some.ensures.steps in let g = c.loop-field.invariant in
    gap_front_room _ _ 0x96 normalize_lit_str _ _ w (prop_low _ _ _ _ _ f.tag_is w g.1 c.in-80.is f.body_is c.in-Some-as_property.ensures.is c.requires.low)

pub to_props-on_held-y-requires : goal.to_props-on_held-y-requires
to_props-on_held-y-requires t c = let w = at c.loop-field.templates c.loop-field.page c.loop-field.cur in let f = c.in-Some.ensures.steps in let g = c.loop-field.invariant in (
  omega (arith, c.in-Some-as_property.ensures.within, ap length c.held.ensures, f.sizes, g.0, c.decreases),
  record {
    desk = omega (arith, c.loop-field.auto.scratch, c.requires.desk);
    short = omega (arith, c.in-Some-as_property.ensures.within, ap length c.held.ensures, f.sizes, g.0, c.requires.short);
    low = gap_held_room _ _ 0x96 normalize_lit_str _ _ w c.property_front-x.ensures c.held.ensures (prop_low _ _ _ _ _ f.tag_is w g.1 c.in-80.is f.body_is c.in-Some-as_property.ensures.is c.requires.low);
  },
)

pub to_props-gap_back-cur-requires : goal.to_props-gap_back-cur-requires
to_props-gap_back-cur-requires t c = let w = at c.loop-field.templates c.loop-field.page c.loop-field.cur in let f = c.in-Some.ensures.steps in let g = c.loop-field.invariant in
    gap_back_room _ _ 0x96 normalize_lit_str _ _ w c.property_front-x.ensures c.held.ensures c.on_held-y.ensures (prop_low _ _ _ _ _ f.tag_is w g.1 c.in-80.is f.body_is c.in-Some-as_property.ensures.is c.requires.low)

pub to_props-loop-field-preserved-in-Some-as_property : goal.to_props-loop-field-preserved-in-Some-as_property
to_props-loop-field-preserved-in-Some-as_property t c = let w = at c.loop-field.templates c.loop-field.page c.loop-field.cur in let f = c.in-Some.ensures.steps in let g = c.loop-field.invariant in
    (omega (arith, f.sizes, g.0), prop_on _ _ _ _ _ f.tag_is w g.1 c.in-80.is f.body_is c.in-Some-as_property.ensures.is f.behind_is (gap_done _ _ 0x96 normalize_lit_str _ _ w c.property_front-x.ensures c.held.ensures c.on_held-y.ensures c.gap_back-cur.ensures))

pub to_props-loop-field-preserved-in_default-as_property : goal.to_props-loop-field-preserved-in_default-as_property
to_props-loop-field-preserved-in_default-as_property t c = let f = c.in-Some.ensures.steps in let g = c.loop-field.invariant in
    (omega (arith, f.sizes, g.0), prop_gone _ _ _ _ _ f.tag_is _ g.1 c.in-80.is f.body_is c.in_default-as_property.ensures.is f.behind_is)

pub to_props-begin-requires : goal.to_props-begin-requires
to_props-begin-requires t c = to_props_spread_begin _ _ _ _ _ c.in-Some.ensures.steps.tag_is _ c.loop-field.invariant.1 c.in-83.is c.in-Some.ensures.steps.body_is c.requires.low

pub to_props-on_expr-x-requires : goal.to_props-on_expr-x-requires
to_props-on_expr-x-requires t c = let n = c.in-Some.ensures.steps.sizes in (
  omega (arith, n, c.loop-field.invariant.0, c.decreases),
  record {
    desk = omega (arith, c.loop-field.auto.scratch, c.requires.desk);
    short = omega (arith, n, c.loop-field.invariant.0, c.requires.short);
    low = to_props_spread_inner _ _ _ _ _ c.in-Some.ensures.steps.tag_is _ c.loop-field.invariant.1 c.in-83.is c.in-Some.ensures.steps.body_is c.begin.ensures c.requires.low;
  },
)

pub to_props-close-cur-requires : goal.to_props-close-cur-requires
to_props-close-cur-requires t c = to_props_spread_close _ _ _ _ _ c.in-Some.ensures.steps.tag_is _ c.loop-field.invariant.1 c.in-83.is c.in-Some.ensures.steps.body_is c.begin.ensures c.on_expr-x.ensures c.requires.low

pub to_props-loop-field-preserved : goal.to_props-loop-field-preserved
to_props-loop-field-preserved t c = (
  omega (arith, (c.in-Some.ensures.steps.sizes), c.loop-field.invariant.0),
  to_props_spread_on _ _ _ _ _ c.in-Some.ensures.steps.tag_is _ c.loop-field.invariant.1 c.in-83.is c.in-Some.ensures.steps.body_is c.begin.ensures c.on_expr-x.ensures c.in-Some.ensures.steps.behind_is c.close-cur.ensures,
)

pub to_props-returns-in_default : goal.to_props-returns-in_default
to_props-returns-in_default t c = props_end _ _ _ _ _ c.in-Some.ensures.steps.tag_is _ c.loop-field.invariant.1 (λ z. omega arith) (λ z. omega arith)

pub to_props-returns : goal.to_props-returns
to_props-returns t c = props_end _ _ _ _ _ c.in-None.ensures.steps.no_tag _ c.loop-field.invariant.1 (λ z. omega arith) (λ z. omega arith)

pub to_call-begin-requires : goal.to_call-begin-requires
to_call-begin-requires t c = begin_asked _ _ _ _ _ _ c.behind-rest.ensures c.is_component-norm.ensures c.requires.low

pub to_call-name_expr-n-requires : goal.to_call-name_expr-n-requires
to_call-name_expr-n-requires t c = name_asked _ _ _ _ _ _ c.behind-rest.ensures c.is_component-norm.ensures c.begin.ensures c.requires.low

pub to_call-leaf-z-requires : goal.to_call-leaf-z-requires
to_call-leaf-z-requires t c = bare_asked _ _ _ _ _ _ c.behind-rest.ensures c.is_component-norm.ensures c.begin.ensures c.name_expr-n.ensures (eqb-true _ 0 (sym c.is_empty.ensures ∙ c.if-is_empty.true)) c.requires.low

pub to_call-close-requires : goal.to_call-close-requires
to_call-close-requires t c = bare_close_asked _ _ _ _ _ _ c.behind-rest.ensures c.is_component-norm.ensures c.begin.ensures c.name_expr-n.ensures (eqb-true _ 0 (sym c.is_empty.ensures ∙ c.if-is_empty.true)) c.leaf-z.ensures c.requires.low

pub to_call-returns-then-is_empty : goal.to_call-returns-then-is_empty
to_call-returns-then-is_empty t c = bare_done _ _ _ _ _ _ c.behind-rest.ensures c.is_component-norm.ensures c.begin.ensures c.name_expr-n.ensures (eqb-true _ 0 (sym c.is_empty.ensures ∙ c.if-is_empty.true)) c.leaf-z.ensures c.close.ensures

pub to_call-begin-requires-2 : goal.to_call-begin-requires-2
to_call-begin-requires-2 t c = props_begin_asked _ _ _ _ _ _ c.behind-rest.ensures c.is_component-norm.ensures c.begin.ensures c.name_expr-n.ensures c.requires.low

pub to_call-to_props-x-requires : goal.to_call-to_props-x-requires
to_call-to_props-x-requires t c = let n = behind_le c.args.b.now c.behind-rest.ensures in (
  omega (arith, n, c.decreases),
  record { desk = c.requires.desk; short = omega (arith, n, c.requires.short); low = props_asked _ _ _ _ _ _ c.behind-rest.ensures c.is_component-norm.ensures c.begin.ensures c.name_expr-n.ensures c.begin-2.ensures c.requires.low },
)

pub to_call-found_of-f-requires : goal.to_call-found_of-f-requires
to_call-found_of-f-requires t c = omega (arith, behind_le c.args.b.now c.behind-rest.ensures, c.requires.short)

pub to_call-children_front-y-requires : goal.to_call-children_front-y-requires
to_call-children_front-y-requires t c = front_asked _ _ _ _ _ _ c.behind-rest.ensures c.is_component-norm.ensures c.begin.ensures c.name_expr-n.ensures c.begin-2.ensures c.to_props-x.ensures c.found_of-f.result.kind _ (c.found_of-f.ensures.1 c.args.options.now.props.now) c.is_found-stands.ensures c.requires.low

pub to_call-to_found-z-requires : goal.to_call-to_found-z-requires
to_call-to_found-z-requires t c = let n = behind_le c.args.b.now c.behind-rest.ensures in (
  omega (arith, n, c.decreases),
  (
    record { within = c.found_of-f.ensures.0; finds = c.found_of-f.ensures.1 c.args.options.now.props.now },
    record { desk = omega (arith, c.to_props-x.auto.scratch, c.requires.desk); short = omega (arith, n, c.requires.short); low = found_asked _ _ _ _ _ _ c.behind-rest.ensures c.is_component-norm.ensures c.begin.ensures c.name_expr-n.ensures c.begin-2.ensures c.to_props-x.ensures c.found_of-f.result.kind _ (c.found_of-f.ensures.1 c.args.options.now.props.now) c.is_found-stands.ensures c.children_front-y.ensures c.requires.low },
  ),
)

pub to_call-close_if-c-requires : goal.to_call-close_if-c-requires
to_call-close_if-c-requires t c = child_asked _ _ _ _ _ _ c.behind-rest.ensures c.is_component-norm.ensures c.begin.ensures c.name_expr-n.ensures c.begin-2.ensures c.to_props-x.ensures c.found_of-f.result.kind _ (c.found_of-f.ensures.1 c.args.options.now.props.now) c.is_found-stands.ensures c.children_front-y.ensures c.to_found-z.ensures c.requires.low

pub to_call-close_props-d-requires : goal.to_call-close_props-d-requires
to_call-close_props-d-requires t c = closed_asked _ _ _ _ _ _ c.behind-rest.ensures c.is_component-norm.ensures c.begin.ensures c.name_expr-n.ensures c.begin-2.ensures c.to_props-x.ensures c.found_of-f.result.kind _ (c.found_of-f.ensures.1 c.args.options.now.props.now) c.is_found-stands.ensures c.children_front-y.ensures c.to_found-z.ensures c.close_if-c.ensures c.requires.low

pub to_call-attr_string_leaf-l-requires : goal.to_call-attr_string_leaf-l-requires
to_call-attr_string_leaf-l-requires t c = string_asked _ _ _ _ _ _ c.behind-rest.ensures c.is_component-norm.ensures c.begin.ensures c.name_expr-n.ensures c.begin-2.ensures c.to_props-x.ensures c.found_of-f.result.kind _ (c.found_of-f.ensures.1 c.args.options.now.props.now) c.is_found-stands.ensures c.children_front-y.ensures c.to_found-z.ensures c.close_if-c.ensures c.close_props-d.ensures (key_as c.in-Some-String.field-0-is _ (c.in-Some-String.ensures.0 c.args.options.now.skip.now c.args.options.now.props.now)) c.requires.low

pub to_call-on_held-l-requires : goal.to_call-on_held-l-requires
to_call-on_held-l-requires t c = let n = behind_le c.args.b.now c.behind-rest.ensures in let h = braces_as c.in-Some-Container.field-0-is c.in-Some-Container.ensures.1 in (
  omega (arith, h, n, c.decreases),
  record {
    desk = omega (arith, c.to_found-z.auto.scratch, c.to_props-x.auto.scratch, c.requires.desk);
    short = omega (arith, h, n, c.requires.short);
    low = key_asked _ _ _ _ _ _ c.behind-rest.ensures c.is_component-norm.ensures c.begin.ensures c.name_expr-n.ensures c.begin-2.ensures c.to_props-x.ensures c.found_of-f.result.kind _ (c.found_of-f.ensures.1 c.args.options.now.props.now) c.is_found-stands.ensures c.children_front-y.ensures c.to_found-z.ensures c.close_if-c.ensures c.close_props-d.ensures (key_as c.in-Some-Container.field-0-is _ (c.in-Some-Container.ensures.0 c.args.options.now.skip.now c.args.options.now.props.now)) c.requires.low;
  },
)

pub to_call-close-requires-2 : goal.to_call-close-requires-2
to_call-close-requires-2 t c = elim c.match-key_at.branch [
  | to_call-in-Some-String w ↦ rw w.l-is (string_closed _ _ _ _ _ _ c.behind-rest.ensures c.is_component-norm.ensures c.begin.ensures c.name_expr-n.ensures c.begin-2.ensures c.to_props-x.ensures c.found_of-f.result.kind _ (c.found_of-f.ensures.1 c.args.options.now.props.now) c.is_found-stands.ensures c.children_front-y.ensures c.to_found-z.ensures c.close_if-c.ensures c.close_props-d.ensures (key_as w.in-Some-String.field-0-is _ (w.in-Some-String.ensures.0 c.args.options.now.skip.now c.args.options.now.props.now)) w.attr_string_leaf-l.ensures c.requires.low)
  | to_call-in-Some-Container w ↦ rw w.l-is (keyed_asked _ _ _ _ _ _ c.behind-rest.ensures c.is_component-norm.ensures c.begin.ensures c.name_expr-n.ensures c.begin-2.ensures c.to_props-x.ensures c.found_of-f.result.kind _ (c.found_of-f.ensures.1 c.args.options.now.props.now) c.is_found-stands.ensures c.children_front-y.ensures c.to_found-z.ensures c.close_if-c.ensures c.close_props-d.ensures (key_as w.in-Some-Container.field-0-is _ (w.in-Some-Container.ensures.0 c.args.options.now.skip.now c.args.options.now.props.now)) w.on_held-l.ensures c.requires.low)
  | to_call-in-Some-Tag w ↦ rw w.l-is (keyless_asked _ _ _ _ _ _ c.behind-rest.ensures c.is_component-norm.ensures c.begin.ensures c.name_expr-n.ensures c.begin-2.ensures c.to_props-x.ensures c.found_of-f.result.kind _ (c.found_of-f.ensures.1 c.args.options.now.props.now) c.is_found-stands.ensures c.children_front-y.ensures c.to_found-z.ensures c.close_if-c.ensures c.close_props-d.ensures (c.key_at.ensures.0 c.args.options.now.skip.now c.args.options.now.props.now ∙ (grind arith)) c.requires.low)
  | to_call-in-Some-Tag-2 w ↦ rw w.l-is (keyless_asked _ _ _ _ _ _ c.behind-rest.ensures c.is_component-norm.ensures c.begin.ensures c.name_expr-n.ensures c.begin-2.ensures c.to_props-x.ensures c.found_of-f.result.kind _ (c.found_of-f.ensures.1 c.args.options.now.props.now) c.is_found-stands.ensures c.children_front-y.ensures c.to_found-z.ensures c.close_if-c.ensures c.close_props-d.ensures (c.key_at.ensures.0 c.args.options.now.skip.now c.args.options.now.props.now ∙ (grind arith)) c.requires.low)
]

pub to_call-returns : goal.to_call-returns
to_call-returns t c = elim c.match-key_at.branch [
  | to_call-in-Some-String w ↦ rw w.templates-is (string_done _ _ _ _ _ _ c.behind-rest.ensures c.is_component-norm.ensures c.begin.ensures c.name_expr-n.ensures c.begin-2.ensures c.to_props-x.ensures c.found_of-f.result.kind _ (c.found_of-f.ensures.1 c.args.options.now.props.now) c.is_found-stands.ensures c.children_front-y.ensures c.to_found-z.ensures c.close_if-c.ensures c.close_props-d.ensures (key_as w.in-Some-String.field-0-is _ (w.in-Some-String.ensures.0 c.args.options.now.skip.now c.args.options.now.props.now)) w.attr_string_leaf-l.ensures (rw (w.l-is, w.page-is) at c.close-2.ensures))
  | to_call-in-Some-Container w ↦ rw w.templates-is (keyed_done _ _ _ _ _ _ c.behind-rest.ensures c.is_component-norm.ensures c.begin.ensures c.name_expr-n.ensures c.begin-2.ensures c.to_props-x.ensures c.found_of-f.result.kind _ (c.found_of-f.ensures.1 c.args.options.now.props.now) c.is_found-stands.ensures c.children_front-y.ensures c.to_found-z.ensures c.close_if-c.ensures c.close_props-d.ensures (key_as w.in-Some-Container.field-0-is _ (w.in-Some-Container.ensures.0 c.args.options.now.skip.now c.args.options.now.props.now)) w.on_held-l.ensures (rw (w.l-is, w.page-is) at c.close-2.ensures))
  | to_call-in-Some-Tag w ↦ rw w.templates-is (keyless_done _ _ _ _ _ _ c.behind-rest.ensures c.is_component-norm.ensures c.begin.ensures c.name_expr-n.ensures c.begin-2.ensures c.to_props-x.ensures c.found_of-f.result.kind _ (c.found_of-f.ensures.1 c.args.options.now.props.now) c.is_found-stands.ensures c.children_front-y.ensures c.to_found-z.ensures c.close_if-c.ensures c.close_props-d.ensures (c.key_at.ensures.0 c.args.options.now.skip.now c.args.options.now.props.now ∙ (grind arith)) (rw (w.l-is, w.page-is) at c.close-2.ensures))
  | to_call-in-Some-Tag-2 w ↦ rw w.templates-is (keyless_done _ _ _ _ _ _ c.behind-rest.ensures c.is_component-norm.ensures c.begin.ensures c.name_expr-n.ensures c.begin-2.ensures c.to_props-x.ensures c.found_of-f.result.kind _ (c.found_of-f.ensures.1 c.args.options.now.props.now) c.is_found-stands.ensures c.children_front-y.ensures c.to_found-z.ensures c.close_if-c.ensures c.close_props-d.ensures (c.key_at.ensures.0 c.args.options.now.skip.now c.args.options.now.props.now ∙ (grind arith)) (rw (w.l-is, w.page-is) at c.close-2.ensures))
]
