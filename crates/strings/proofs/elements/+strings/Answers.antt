-- The three functions meet their contracts by one induction: the bytes left fall, eight a byte, and within one slice an element stands above
-- its tags, and they above the series.
-- The loop keeps that what is left of the series, written from here on, gives what the whole gives from the start. Assumes nothing.
use Rattle.names.proofs.VoidLaws.{void_by_kind, not_void_by_kind}
use Rattle.strings.proofs.FrontSizes.{behind_le}
use mathlib.Core.Path.{refl, sym, ◌∙◌, subst}
use borrow.Author.Tests.{eqb-true}
use native.Mathlib.Omega.{arith}
use borrow.Author.Rules.{rules}
use Rattle.decisions.specs.Repeats.{Told}
use Rattle.strings.proofs.ElementLaws.{left_start, left_end, body_falls, text_room, text_on, container_room, container_on, element_room, element_on, fragment_room, fragment_on, other_on, gap_room, gap_end, open_room, attrs_room, end_room, void_end, no_kids, kids_room, close_room, close_end}
use Rattle.strings.proofs.elements.+strings.Goals as goal

pub children_strings-loop-field-init : goal.children_strings-loop-field-init
children_strings-loop-field-init t c = left_start _ _ _ _ _

pub children_strings-put_text-cur-requires : goal.children_strings-put_text-cur-requires
children_strings-put_text-cur-requires t c = text_room c.loop-field.invariant c.in-Some.ensures.steps c.in-96.is c.is_last-last.ensures c.requires

pub children_strings-loop-field-preserved-in-96 : goal.children_strings-loop-field-preserved-in-96
children_strings-loop-field-preserved-in-96 t c = text_on c.loop-field.invariant c.in-Some.ensures.steps c.in-96.is c.is_last-last.ensures c.put_text-cur.ensures

pub children_strings-container_child-cur-requires : goal.children_strings-container_child-cur-requires
children_strings-container_child-cur-requires t c = container_room c.loop-field.invariant c.in-Some.ensures.steps c.in-82.is c.requires

pub children_strings-loop-field-preserved-in-82 : goal.children_strings-loop-field-preserved-in-82
children_strings-loop-field-preserved-in-82 t c = container_on c.loop-field.invariant c.in-Some.ensures.steps c.in-82.is c.container_child-cur.ensures

pub children_strings-element_strings-cur-requires : goal.children_strings-element_strings-cur-requires
children_strings-element_strings-cur-requires t c = (omega (arith, body_falls c.loop-field.invariant c.in-Some.ensures.steps, c.decreases), element_room c.loop-field.invariant c.in-Some.ensures.steps c.in-48.is c.requires)

pub children_strings-loop-field-preserved-in-48 : goal.children_strings-loop-field-preserved-in-48
children_strings-loop-field-preserved-in-48 t c = element_on c.loop-field.invariant c.in-Some.ensures.steps c.in-48.is c.element_strings-cur.ensures

pub children_strings-children_strings-cur-requires : goal.children_strings-children_strings-cur-requires
children_strings-children_strings-cur-requires t c = (omega (arith, body_falls c.loop-field.invariant c.in-Some.ensures.steps, c.decreases), fragment_room c.loop-field.invariant c.in-Some.ensures.steps c.in-49.is c.requires)

pub children_strings-loop-field-preserved-in-49 : goal.children_strings-loop-field-preserved-in-49
children_strings-loop-field-preserved-in-49 t c = fragment_on c.loop-field.invariant c.in-Some.ensures.steps c.in-49.is c.children_strings-cur.ensures

pub children_strings-returns : goal.children_strings-returns
children_strings-returns t c = left_end c.loop-field.invariant c.in_default.ensures.steps.ended

pub children_strings-loop-field-preserved : goal.children_strings-loop-field-preserved
children_strings-loop-field-preserved t c = other_on c.loop-field.invariant c.in-Some.ensures.steps (λ z. omega (arith, z)) (λ z. omega (arith, z)) (λ z. omega (arith, z)) (λ z. omega (arith, z))

pub element_strings-tag_strings-requires : goal.element_strings-tag_strings-requires
element_strings-tag_strings-requires t c = (omega (arith, c.decreases), (c.in-Some.ensures.0, c.requires, c.in-Some.ensures.1))

pub element_strings-cut-requires : goal.element_strings-cut-requires
element_strings-cut-requires t c = gap_room _ _ _ _ refl c.in_default.ensures c.requires

pub element_strings-returns-in_default : goal.element_strings-returns-in_default
element_strings-returns-in_default t c = gap_end _ _ _ _ refl c.in_default.ensures c.cut.ensures

pub tag_strings-open_tag-p-requires : goal.tag_strings-open_tag-p-requires
tag_strings-open_tag-p-requires t c = (
  c.void_kind-kind.ensures,
  open_room _ _ _ _ refl c.requires.0 c.identifier-n.ensures c.behind-rest.ensures c.requires.1,
  subst (λ r. Told r c.args.names) (sym c.behind-rest.ensures) c.requires.2,
)

pub tag_strings-attributes_strings-a-requires : goal.tag_strings-attributes_strings-a-requires
tag_strings-attributes_strings-a-requires t c = attrs_room _ _ _ _ refl c.requires.0 c.identifier-n.ensures c.behind-rest.ensures c.open_tag-p.ensures c.requires.1

pub tag_strings-put_chars-c-requires : goal.tag_strings-put_chars-c-requires
tag_strings-put_chars-c-requires t c = end_room _ _ _ _ refl c.requires.0 c.identifier-n.ensures c.behind-rest.ensures c.open_tag-p.ensures c.attributes_strings-a.ensures c.requires.1

pub tag_strings-returns-in-Some-AsWritten : goal.tag_strings-returns-in-Some-AsWritten
tag_strings-returns-in-Some-AsWritten t c = void_end _ _ _ _ refl c.requires.0 c.identifier-n.ensures c.behind-rest.ensures c.open_tag-p.ensures c.attributes_strings-a.ensures c.put_chars-c.ensures refl (void_by_kind _ c.void_kind-kind.ensures (search rules))

pub tag_strings-children_strings-d-requires : goal.tag_strings-children_strings-d-requires
tag_strings-children_strings-d-requires t c = (omega (arith, behind_le _ c.behind-rest.ensures, c.decreases), kids_room _ _ _ _ refl c.requires.0 c.identifier-n.ensures c.behind-rest.ensures c.open_tag-p.ensures c.attributes_strings-a.ensures c.put_chars-c.ensures refl (not_void_by_kind _ c.void_kind-kind.ensures (search rules)) c.requires.1)

pub tag_strings-put_close-requires : goal.tag_strings-put_close-requires
tag_strings-put_close-requires t c = close_room _ _ _ _ refl c.requires.0 c.identifier-n.ensures c.behind-rest.ensures c.open_tag-p.ensures c.attributes_strings-a.ensures c.put_chars-c.ensures refl (not_void_by_kind _ c.void_kind-kind.ensures (search rules)) (no_kids _ _ _ _ (eqb-true _ 0 (sym c.is_empty.ensures ∙ c.if-is_empty.true))) c.requires.1

pub tag_strings-returns-then-is_empty : goal.tag_strings-returns-then-is_empty
tag_strings-returns-then-is_empty t c = close_end _ _ _ _ refl c.requires.0 c.identifier-n.ensures c.behind-rest.ensures c.open_tag-p.ensures c.attributes_strings-a.ensures c.put_chars-c.ensures refl (not_void_by_kind _ c.void_kind-kind.ensures (search rules)) (no_kids _ _ _ _ (eqb-true _ 0 (sym c.is_empty.ensures ∙ c.if-is_empty.true))) c.put_close.ensures

pub tag_strings-put_close-requires-2 : goal.tag_strings-put_close-requires-2
tag_strings-put_close-requires-2 t c = close_room _ _ _ _ refl c.requires.0 c.identifier-n.ensures c.behind-rest.ensures c.open_tag-p.ensures c.attributes_strings-a.ensures c.put_chars-c.ensures refl (not_void_by_kind _ c.void_kind-kind.ensures (search rules)) c.children_strings-d.ensures c.requires.1

pub tag_strings-returns : goal.tag_strings-returns
tag_strings-returns t c = close_end _ _ _ _ refl c.requires.0 c.identifier-n.ensures c.behind-rest.ensures c.open_tag-p.ensures c.attributes_strings-a.ensures c.put_chars-c.ensures refl (not_void_by_kind _ c.void_kind-kind.ensures (search rules)) c.children_strings-d.ensures c.put_close-2.ensures
