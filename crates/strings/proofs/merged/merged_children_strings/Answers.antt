-- A turn of the loop keeps what scratch holds of the run, and what is left to do. Assumes nothing.
use native.Mathlib.Omega.{arith}
use Rattle.strings.proofs.MergedLaws.{text_room, joined_room, text_on, joined_on, cut_run, cut_room, cut_on, element_run, element_room, element_on, fragment_run, fragment_room, fragment_on, other_on, last_room, merging_end}
use Rattle.strings.proofs.merged.merged_children_strings.Goals as goal

pub jsx_text_to_str-n-requires : goal.jsx_text_to_str-n-requires
jsx_text_to_str-n-requires c = text_room c.loop-field.invariant c.in-Some.ensures.steps c.requires.in_bounds.1

pub loop-field-preserved-in-96 : goal.loop-field-preserved-in-96
loop-field-preserved-in-96 c = text_on c.loop-field.invariant c.in-Some.ensures.steps c.in-96.is c.jsx_text_to_str-n.ensures

pub put_value-n-requires : goal.put_value-n-requires
put_value-n-requires c = joined_room c.loop-field.invariant c.in-Some.ensures.steps c.requires.in_bounds.1 c.in-Text.ensures

pub loop-field-preserved-in-Text : goal.loop-field-preserved-in-Text
loop-field-preserved-in-Text c = joined_on c.loop-field.invariant c.in-Some.ensures.steps c.in-82.is c.in-Text.ensures c.put_value-n.ensures

pub cut-cur-requires : goal.cut-cur-requires
cut-cur-requires c = cut_room c.loop-field.invariant c.requires.in_bounds.0 c.requires.low c.in-Some.ensures.steps c.in-82.is c.in-Gap.ensures c.put_run-a.ensures

pub loop-field-preserved-in-Gap : goal.loop-field-preserved-in-Gap
loop-field-preserved-in-Gap c = cut_on c.loop-field.invariant c.requires.in_bounds.0 c.requires.low c.in-Some.ensures.steps c.in-82.is c.in-Gap.ensures c.put_run-a.ensures c.cut-cur.ensures

pub element_strings-cur-requires : goal.element_strings-cur-requires
element_strings-cur-requires c = element_room c.loop-field.invariant c.requires.in_bounds.0 c.requires.low c.in-Some.ensures.steps c.in-48.is c.put_run-a-in-48.ensures

pub loop-field-preserved-in-48 : goal.loop-field-preserved-in-48
loop-field-preserved-in-48 c = element_on c.loop-field.invariant c.requires.in_bounds.0 c.requires.low c.in-Some.ensures.steps c.in-48.is c.put_run-a-in-48.ensures c.element_strings-cur.ensures

pub children_strings-cur-requires : goal.children_strings-cur-requires
children_strings-cur-requires c = fragment_room c.loop-field.invariant c.requires.in_bounds.0 c.requires.low c.in-Some.ensures.steps c.in-49.is c.put_run-a-in-49.ensures

pub loop-field-preserved-in-49 : goal.loop-field-preserved-in-49
loop-field-preserved-in-49 c = fragment_on c.loop-field.invariant c.requires.in_bounds.0 c.requires.low c.in-Some.ensures.steps c.in-49.is c.put_run-a-in-49.ensures c.children_strings-cur.ensures

pub returns : goal.returns
returns c = merging_end c.loop-field.invariant c.requires.in_bounds.0 c.requires.low c.in-None.ensures.steps.ended c.put_run.ensures

pub loop-field-preserved : goal.loop-field-preserved
loop-field-preserved c = other_on c.loop-field.invariant c.in-Some.ensures.steps (λ z. omega (arith, z)) (λ z. omega (arith, z)) (λ z. omega (arith, z)) (λ z. omega (arith, z))

pub put_run-a-requires-clause-low : goal.put_run-a-requires-clause-low
put_run-a-requires-clause-low c = cut_run c.loop-field.invariant c.requires.in_bounds.0 c.requires.low c.in-Some.ensures.steps c.in-82.is c.in-Gap.ensures

pub put_run-a-requires-in-48-clause-low : goal.put_run-a-requires-in-48-clause-low
put_run-a-requires-in-48-clause-low c = element_run c.loop-field.invariant c.requires.in_bounds.0 c.requires.low c.in-Some.ensures.steps c.in-48.is

pub put_run-a-requires-in-49-clause-low : goal.put_run-a-requires-in-49-clause-low
put_run-a-requires-in-49-clause-low c = fragment_run c.loop-field.invariant c.requires.in_bounds.0 c.requires.low c.in-Some.ensures.steps c.in-49.is

pub put_run-requires-clause-low : goal.put_run-requires-clause-low
put_run-requires-clause-low c = last_room c.loop-field.invariant c.requires.in_bounds.0 c.requires.low c.in-None.ensures.steps.ended
