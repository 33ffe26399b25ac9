-- The invariant: what was found is the entries so far, and what is left gives the others.
use mathlib.Core.Path.{◌≡◌, sym, ◌∙◌}
use mathlib.Core.Bool.{false}
use Prim.Native.Nat.{ℕ}
use native.Mathlib.Omega.{arith}
use Rattle.field.specs.Row.{read}
use Rattle.page.specs.Tree.{children_in}
use Rattle.decisions.specs.declared.children.Count.TheVariants.{More}
use Rattle.decisions.specs.At.{few}
use Rattle.decisions.proofs.ChildrenLaws.{few_one, few_more}
use Rattle.found.proofs.Places.{no_bytes, some_bytes, not_none}
use Rattle.found.proofs.WalkLaws.{Looked, looked_start, looked_many, looked_end}
use Rattle.found.proofs.StepLaws.{step_text, step_joined, step_more, adds_expr, adds_element, adds_fragment, step_apart, step_several, step_other}
use Rattle.found.proofs.FoundLaws.{Only, found_none, found_60, found_52, found_empty, found_30, found_31, found_61, found_template, found_known, found_many}
use Rattle.found.proofs.+found.Goals as goal
use Rattle.found.proofs.+found.Goals.{entries_of-After-then-cur, entries_of-then-run-via-then-run, entries_of-then-run-via-else-run+then-is_blank, entries_of-in-82+in-Apart, entries_of-in-48, entries_of-in-49+in_default-kind, found_of-Then-is_empty, found_of-Else-is_empty}

pub entries_of-loop-field-init : goal.entries_of-loop-field-init
entries_of-loop-field-init t c = looked_start _ _ c.nowhere-cur.ensures

pub entries_of-loop-field-preserved-then-run : goal.entries_of-loop-field-preserved-then-run
entries_of-loop-field-preserved-then-run t c =
    step_text _ _ _ _ _ c.loop-field.invariant c.in-Some.ensures.steps c.in-96.is
    (elim c.then-run.branch [
      | entries_of-then-run-via-then-run w ↦ rw w.if-run.true
      | entries_of-then-run-via-else-run+then-is_blank w ↦ rw (w.if-run.false, sym w.is_blank.ensures ∙ w.if-is_blank.true)
    ])

pub entries_of-loop-field-preserved-in-96 : goal.entries_of-loop-field-preserved-in-96
entries_of-loop-field-preserved-in-96 t c = step_text _ _ _ _ _ c.loop-field.invariant c.in-Some.ensures.steps c.in-96.is (rw (c.if-run.false, sym c.is_blank.ensures ∙ c.if-is_blank.false))

pub entries_of-loop-field-preserved-in-Nothing : goal.entries_of-loop-field-preserved-in-Nothing
entries_of-loop-field-preserved-in-Nothing t c = step_joined _ _ _ _ _ c.loop-field.invariant c.in-Some.ensures.steps c.in-82.is c.in-Nothing.ensures

pub entries_of-loop-field-preserved-in-Something : goal.entries_of-loop-field-preserved-in-Something
entries_of-loop-field-preserved-in-Something t c = step_more _ _ _ _ _ c.loop-field.invariant c.in-Some.ensures.steps c.in-82.is c.in-Something.ensures

pub entries_of-loop-field-preserved-in_default-tag : goal.entries_of-loop-field-preserved-in_default-tag
entries_of-loop-field-preserved-in_default-tag t c = step_other _ _ _ _ _ c.loop-field.invariant c.in-Some.ensures.steps (grind arith) (grind arith) (grind arith) (grind arith)

-- what stands apart from a run was taken up
taken_up : (t : ℕ) (c : entries_of-After-then-cur t) → Looked c.args.skip.now c.args.s.now c.next.new.self.0.now false c.then-cur.result
taken_up t c =
    let f = c.in-Some.ensures.steps in
    let a = c.loop-field.invariant.tail in
    step_apart _ _ _ _ _ c.loop-field.invariant f
    (elim c.match-field.branch [
      | entries_of-in-82+in-Apart w ↦ adds_expr _ _ _ a f w.in-82.is w.in-Apart.ensures (w.x-is ∙ w.place.ensures)
      | entries_of-in-48 w ↦ adds_element _ _ _ a f w.in-48.is (w.x-is ∙ w.place-x.ensures)
      | entries_of-in-49+in_default-kind w ↦ adds_fragment _ _ _ a f w.in-49.is _ w.found_of-f.ensures _ w.spliced.ensures (w.x-is ∙ w.inside-x.ensures)
    ]) c.with_run.ensures c.then-cur.ensures

pub entries_of-returns-then-is_settled : goal.entries_of-returns-then-is_settled
entries_of-returns-then-is_settled t c = looked_many _ _ _ _ _ (taken_up t (goal.at.entries_of-returns-then-is_settled t c).After-then-cur) c.is_settled.ensures c.if-is_settled.true

pub entries_of-loop-field-preserved : goal.entries_of-loop-field-preserved
entries_of-loop-field-preserved t c = taken_up t (goal.at.entries_of-loop-field-preserved t c).After-then-cur

pub entries_of-returns-in-Many : goal.entries_of-returns-in-Many
entries_of-returns-in-Many t c = step_several _ _ _ _ _ c.loop-field.invariant c.in-Some.ensures.steps c.in-49.is _ c.found_of-f.ensures c.in-Many.is c.known_around.ensures c.place-in-Many.ensures

pub entries_of-returns : goal.entries_of-returns
entries_of-returns t c = looked_end _ _ _ _ _ c.loop-field.invariant c.in_default.ensures.steps.ended c.with_run-2.ensures

only : (t : ℕ) (c : found_of-Then-is_empty t) → Only c.args.s.now c.children_at-a.result.now c.in-Some.child.tag c.in-Some.child.body.now
only t c =
    let f = c.in-Some.ensures.steps in
    let a = c.children_at-a.ensures in
    record {
      rest = c.next.new.self.0.now;
      one = few_one _ _ a.first (λ z. omega (arith, z, f.sizes)) f.behind_is _ c.children_at.ensures.first (no_bytes c.is_empty.ensures c.if-is_empty.true);
      first = a.first;
      place = a.place;
      front = f;
    }

more : (t : ℕ) (c : found_of-Else-is_empty t) → More ≡ few (children_in (read c.args.s.now))
more t c =
    let f = c.in-Some.ensures.steps in
    few_more _ _ c.children_at-a.ensures.first (λ z. omega (arith, z, f.sizes)) f.behind_is _ c.children_at.ensures.first (some_bytes c.is_empty.ensures c.if-is_empty.false)

pub found_of-returns-in_default : goal.found_of-returns-in_default
found_of-returns-in_default t c = found_none _ _ _ c.children_at-a.ensures.first c.in_default.ensures.steps.ended c.nowhere.ensures

pub found_of-returns-in-96 : goal.found_of-returns-in-96
found_of-returns-in-96 t c = found_60 _ _ (only t (goal.at.found_of-returns-in-96 t c).Then-is_empty) c.in-96.is c.place.ensures

pub found_of-returns-in-Some-field_at : goal.found_of-returns-in-Some-field_at
found_of-returns-in-Some-field_at t c = found_52 _ _ (only t (goal.at.found_of-returns-in-Some-field_at t c).Then-is_empty) c.in-82.is (λ z. not_none c.in-Some-field_at.ensures (c.in-Some-field_at.ensures.tag_is ∙ z)) c.place-in-Some-field_at.ensures

pub found_of-returns-in-None : goal.found_of-returns-in-None
found_of-returns-in-None t c = found_empty _ _ (only t (goal.at.found_of-returns-in-None t c).Then-is_empty) c.in-82.is c.in-None.ensures.ended c.nowhere-in-None.ensures

pub found_of-returns-in-48 : goal.found_of-returns-in-48
found_of-returns-in-48 t c = found_30 _ _ (only t (goal.at.found_of-returns-in-48 t c).Then-is_empty) c.in-48.is c.place-in-48.ensures

pub found_of-returns-in-Many : goal.found_of-returns-in-Many
found_of-returns-in-Many t c = found_known _ _ (only t (goal.at.found_of-returns-in-Many t c).Then-is_empty) c.in-49.is _ c.found_of-f.ensures c.in-Many.is c.known_around.ensures c.place-in-Many.ensures

pub found_of-returns-in_default-kind : goal.found_of-returns-in_default-kind
found_of-returns-in_default-kind t c = found_31 _ _ (only t (goal.at.found_of-returns-in_default-kind t c).Then-is_empty) c.in-49.is _ c.found_of-f.ensures c.inside.ensures

pub found_of-returns-in_default-tag : goal.found_of-returns-in_default-tag
found_of-returns-in_default-tag t c = found_61 _ _ (only t (goal.at.found_of-returns-in_default-tag t c).Then-is_empty) (grind arith) (grind arith) (grind arith) (grind arith) c.nowhere-in_default-tag.ensures

pub found_of-returns-then-becomes_template : goal.found_of-returns-then-becomes_template
found_of-returns-then-becomes_template t c = found_template _ _ (more t (goal.at.found_of-returns-then-becomes_template t c).Else-is_empty) c.becomes_template.ensures c.if-becomes_template.true c.place-then-becomes_template.ensures

pub found_of-returns : goal.found_of-returns
found_of-returns t c = found_many _ _ (more t (goal.at.found_of-returns t c).Else-is_empty) c.becomes_template.ensures c.if-becomes_template.false _ c.entries_of.ensures _ c.flattened.ensures
