-- The five functions meet their contracts by one induction: the bytes left fall, eight a byte. In both loops what is left records, from here on, what the
-- whole records from the start.
use mathlib.Core.Path.{refl, sym, ◌∙◌, subst}
use native.Mathlib.Omega.{arith}
use borrow.Author.Rules.{rules}
use borrow.Author.Tests.{eqb-true}
use Rattle.records.specs.Keep.{at, Low}
use Rattle.records.proofs.KeepLaws.{keep_low, inner_low, outer_low, outer_is}
use Rattle.records.proofs.ReadLaws.{behind_shorter, serialize_call, serialize_template, inner_call, inner_is, inner_shorter, inner_none, found_0, only_30, only_31, only_other, found_2, found_merged}
use Rattle.records.proofs.WalkLaws.{parts_start, parts_end, parts_past, part_falls, element_room, element_on, kids_room, kids_on, entries_start, entries_end, entries_past, entry_falls, serialize_room, serialize_on, found_room, found_on}
use Rattle.records.proofs.+record.Goals as goal

pub record_parts-loop-field-init : goal.record_parts-loop-field-init
record_parts-loop-field-init t c = rw c.into_iter-field-iterator.ensures.into_iter_gives (parts_start _ _ _ _ _)

pub record_parts-record_element-cur-requires : goal.record_parts-record_element-cur-requires
record_parts-record_element-cur-requires t c = (omega (arith, part_falls c.loop-field.invariant c.in-Some.ensures.steps, c.decreases), element_room c.loop-field.invariant c.in-Some.ensures.steps c.in-48.is c.requires)

pub record_parts-loop-field-preserved-in-48 : goal.record_parts-loop-field-preserved-in-48
record_parts-loop-field-preserved-in-48 t c = element_on c.loop-field.invariant c.in-Some.ensures.steps c.in-48.is c.record_element-cur.auto.scratch c.record_element-cur.ensures

pub record_parts-record_parts-cur-requires : goal.record_parts-record_parts-cur-requires
record_parts-record_parts-cur-requires t c = (omega (arith, part_falls c.loop-field.invariant c.in-Some.ensures.steps, c.decreases), kids_room c.loop-field.invariant c.in-Some.ensures.steps c.in-49.is c.requires)

pub record_parts-loop-field-preserved-in-49 : goal.record_parts-loop-field-preserved-in-49
record_parts-loop-field-preserved-in-49 t c = kids_on c.loop-field.invariant c.in-Some.ensures.steps c.in-49.is c.record_parts-cur.auto.scratch c.record_parts-cur.ensures

pub record_parts-loop-field-preserved : goal.record_parts-loop-field-preserved
record_parts-loop-field-preserved t c = parts_past c.loop-field.invariant c.in-Some.ensures.steps (λ z. omega (arith, z)) (λ z. omega (arith, z))

pub record_parts-returns : goal.record_parts-returns
record_parts-returns t c = parts_end c.loop-field.invariant c.in-None.ensures.steps.ended

pub record_entries-loop-field-init : goal.record_entries-loop-field-init
record_entries-loop-field-init t c = rw c.into_iter-field-iterator.ensures.into_iter_gives (entries_start _ _ _ _ _)

pub record_entries-record_serialize-cur-requires : goal.record_entries-record_serialize-cur-requires
record_entries-record_serialize-cur-requires t c = (omega (arith, entry_falls c.loop-field.invariant c.in-Some.ensures.steps, c.decreases), serialize_room c.loop-field.invariant c.in-Some.ensures.steps c.in-48.is c.requires)

pub record_entries-loop-field-preserved-in-48 : goal.record_entries-loop-field-preserved-in-48
record_entries-loop-field-preserved-in-48 t c = serialize_on c.loop-field.invariant c.in-Some.ensures.steps c.in-48.is c.record_serialize-cur.auto.scratch c.record_serialize-cur.ensures

pub record_entries-record_found-cur-requires : goal.record_entries-record_found-cur-requires
record_entries-record_found-cur-requires t c = (omega (arith, entry_falls c.loop-field.invariant c.in-Some.ensures.steps, c.decreases), found_room c.loop-field.invariant c.in-Some.ensures.steps c.in-49.is c.requires)

pub record_entries-loop-field-preserved-in-49 : goal.record_entries-loop-field-preserved-in-49
record_entries-loop-field-preserved-in-49 t c = found_on c.loop-field.invariant c.in-Some.ensures.steps c.in-49.is c.record_found-cur.auto.scratch c.record_found-cur.ensures

pub record_entries-loop-field-preserved : goal.record_entries-loop-field-preserved
record_entries-loop-field-preserved t c = entries_past c.loop-field.invariant c.in-Some.ensures.steps (λ z. omega (arith, z)) (λ z. omega (arith, z))

pub record_entries-returns : goal.record_entries-returns
record_entries-returns t c = entries_end c.loop-field.invariant c.in-None.ensures.steps.ended

pub record_element-returns-then-is_empty : goal.record_element-returns-then-is_empty
record_element-returns-then-is_empty t c = sym (inner_none _ _ _ c.behind-rest.ensures (eqb-true _ 0 (sym c.is_empty.ensures ∙ c.if-is_empty.true)) _)

pub record_element-record_found-requires : goal.record_element-record_found-requires
record_element-record_found-requires t c = let l = behind_shorter _ c.behind-rest.ensures in (
  omega (arith, l, c.decreases),
  record {
    desk = c.requires.desk;
    short = omega (arith, l, c.requires.short);
    low = subst Low (inner_call _ _ _ c.behind-rest.ensures c.is_serializable.ensures c.if-is_serializable.false _) c.requires.low;
  },
)

pub record_element-returns-else-is_serializable : goal.record_element-returns-else-is_serializable
record_element-returns-else-is_serializable t c = c.record_found.ensures ∙ sym (inner_call _ _ _ c.behind-rest.ensures c.is_serializable.ensures c.if-is_serializable.false _)

pub record_element-record_parts-requires : goal.record_element-record_parts-requires
record_element-record_parts-requires t c = let l = inner_shorter _ c.inner_children.ensures in (
  omega (arith, l, c.decreases),
  record {
    desk = c.requires.desk;
    short = omega (arith, l, c.requires.short);
    low = subst Low (inner_is _ _ _ refl c.is_serializable.ensures c.if-is_serializable.true _ c.inner_children.ensures) c.requires.low;
  },
)

pub record_element-returns-then-is_serializable : goal.record_element-returns-then-is_serializable
record_element-returns-then-is_serializable t c = c.record_parts.ensures ∙ sym (inner_is _ _ _ refl c.is_serializable.ensures c.if-is_serializable.true _ c.inner_children.ensures)

pub record_found-returns-in-Zero : goal.record_found-returns-in-Zero
record_found-returns-in-Zero t c = sym (found_0 _ _ _ (sym c.in-Zero.ensures.count) _ refl)

pub record_found-record_serialize-requires : goal.record_found-record_serialize-requires
record_found-record_serialize-requires t c = let o = c.in-One-eq48.ensures.only in (
  omega (arith, o.front.sizes, o.within, c.decreases),
  record {
    desk = c.requires.desk;
    short = omega (arith, o.front.sizes, o.within, c.requires.short);
    low = subst Low (only_30 _ _ _ (sym c.in-One-eq48.ensures.count) _ refl o.first o.front (omega arith)) c.requires.low;
  },
)

pub record_found-returns-in-One-eq48 : goal.record_found-returns-in-One-eq48
record_found-returns-in-One-eq48 t c = let o = c.in-One-eq48.ensures.only in c.record_serialize.ensures ∙ sym (only_30 _ _ _ (sym c.in-One-eq48.ensures.count) _ refl o.first o.front (omega arith))

pub record_found-record_found-requires : goal.record_found-record_found-requires
record_found-record_found-requires t c = let o = c.in-One-eq49.ensures.only in (
  omega (arith, o.front.sizes, o.within, c.decreases),
  record {
    desk = c.requires.desk;
    short = omega (arith, o.front.sizes, o.within, c.requires.short);
    low = subst Low (only_31 _ _ _ (sym c.in-One-eq49.ensures.count) _ refl o.first o.front (omega arith)) c.requires.low;
  },
)

pub record_found-returns-in-One-eq49 : goal.record_found-returns-in-One-eq49
record_found-returns-in-One-eq49 t c = let o = c.in-One-eq49.ensures.only in c.record_found.ensures ∙ sym (only_31 _ _ _ (sym c.in-One-eq49.ensures.count) _ refl o.first o.front (omega arith))

pub record_found-returns-in-One : goal.record_found-returns-in-One
record_found-returns-in-One t c = let o = c.in-One.ensures.only in sym (only_other _ _ _ (sym c.in-One.ensures.count) _ refl o.first _ o.front.tag_is (search rules) (search rules))

pub record_found-taken-requires : goal.record_found-taken-requires
record_found-taken-requires t c = (keep_low _ (at c.args.out.now c.args.st) c.requires.low).low_next

pub record_found-record_parts-inner-requires : goal.record_found-record_parts-inner-requires
record_found-record_parts-inner-requires t c = (omega (arith, c.decreases), record { desk = c.requires.desk; short = c.requires.short; low = inner_low _ _ _ _ _ (found_merged _ _ _ (sym c.in-More.ensures.count) _ refl c.becomes_template.ensures c.if-becomes_template.true) c.taken.ensures c.requires.low })

pub record_found-write_merged-requires : goal.record_found-write_merged-requires
record_found-write_merged-requires t c = record { desk = omega (arith, c.requires.desk, c.record_parts-inner.auto.scratch); short = c.requires.short; low = outer_low _ _ _ _ _ (found_merged _ _ _ (sym c.in-More.ensures.count) _ refl c.becomes_template.ensures c.if-becomes_template.true) c.taken.ensures c.record_parts-inner.ensures c.requires.low }

pub record_found-returns-then-becomes_template : goal.record_found-returns-then-becomes_template
record_found-returns-then-becomes_template t c = outer_is _ _ _ _ _ (found_merged _ _ _ (sym c.in-More.ensures.count) _ refl c.becomes_template.ensures c.if-becomes_template.true) c.taken.ensures c.record_parts-inner.ensures c.write_merged.ensures

pub record_found-record_entries-requires : goal.record_found-record_entries-requires
record_found-record_entries-requires t c = (omega (arith, c.decreases), record { desk = c.requires.desk; short = c.requires.short; low = subst Low (found_2 _ _ _ (sym c.in-More.ensures.count) _ refl c.becomes_template.ensures c.if-becomes_template.false) c.requires.low })

pub record_found-returns-else-becomes_template : goal.record_found-returns-else-becomes_template
record_found-returns-else-becomes_template t c = c.record_entries.ensures ∙ sym (found_2 _ _ _ (sym c.in-More.ensures.count) _ refl c.becomes_template.ensures c.if-becomes_template.false)

pub record_serialize-record_found-requires : goal.record_serialize-record_found-requires
record_serialize-record_found-requires t c = let l = behind_shorter _ c.behind.ensures in (
  omega (arith, l, c.decreases),
  record {
    desk = c.requires.desk;
    short = omega (arith, l, c.requires.short);
    low = subst Low (serialize_call _ _ _ c.behind.ensures refl c.in_default.ensures _) c.requires.low;
  },
)

pub record_serialize-returns-in_default : goal.record_serialize-returns-in_default
record_serialize-returns-in_default t c = c.record_found.ensures ∙ sym (serialize_call _ _ _ c.behind.ensures refl c.in_default.ensures _)

pub record_serialize-taken-requires : goal.record_serialize-taken-requires
record_serialize-taken-requires t c = (keep_low _ (at c.args.out.now c.args.st) c.requires.low).low_next

pub record_serialize-record_parts-inner-requires : goal.record_serialize-record_parts-inner-requires
record_serialize-record_parts-inner-requires t c = let l = inner_shorter _ c.inner_children.ensures in (
  omega (arith, l, c.decreases),
  record {
    desk = c.requires.desk;
    short = omega (arith, l, c.requires.short);
    low = subst Low (inner_is _ _ _ refl refl c.in-Some.ensures.0 _ c.inner_children.ensures)
        (inner_low _ _ _ _ _ (serialize_template _ _ _ refl refl c.in-Some.ensures.0 _) c.taken.ensures c.requires.low);
  },
)

pub record_serialize-write_element-requires : goal.record_serialize-write_element-requires
record_serialize-write_element-requires t c = (c.in-Some.ensures.0, outer_low _ _ _ _ _ (serialize_template _ _ _ refl refl c.in-Some.ensures.0 _) c.taken.ensures (c.record_parts-inner.ensures ∙ sym (inner_is _ _ _ refl refl c.in-Some.ensures.0 _ c.inner_children.ensures)) c.requires.low, c.in-Some.ensures.1)

pub record_serialize-returns : goal.record_serialize-returns
record_serialize-returns t c = outer_is _ _ _ _ _ (serialize_template _ _ _ refl refl c.in-Some.ensures.0 _) c.taken.ensures (c.record_parts-inner.ensures ∙ sym (inner_is _ _ _ refl refl c.in-Some.ensures.0 _ c.inner_children.ensures)) c.write_element.ensures
