-- Laws of `keep`: passes in a row, passes that record nothing, and a template, which takes its number before its dynamic expressions and is
-- recorded after them. Main statements: `keep_both`, `keep_pure`, `keep_template`, `parts`, `entered`. Assumes nothing.
use mathlib.Core.Path.{◌≡◌, refl, sym, ap, ap₂, ◌∙◌, subst}
use Prim.Native.Nat.{ℕ, ◌+◌}
use native.Mathlib.Omega.{arith}
use mathlib.Core.List.{List, [], ◌∷◌, ◌++◌}
use mathlib.Core.Bool.{Bool, false, ◌||◌}
use lib.ListN.{length}
use Rattle.field.specs.Row.{bytes, long_body}
use Rattle.field.proofs.Actions.{Action, Lows}
use Rattle.spec.specs.Pass.{Template, Done, Pass, pure, map, both, raise, join, long_if, Mid, none, ◌+++◌, Part, chars, gap, mark, marks}
use Rattle.spec.specs.Output.{strings_after, kinds_of, dynamic_exprs, template_row, gen_template}
use Rattle.spec.specs.Merge.{Entry}
use Rattle.spec.specs.Children.{entry_pass, entries_pass}
use Rattle.spec.specs.Transform.{templates_row}
use Rattle.strings.specs.declared.due.Due.{Due}
use Rattle.strings.specs.Due.{graver, long_due, grave}
use Rattle.strings.specs.Recorded.{recorded_one, recorded}
use Rattle.strings.proofs.RecordedLaws.{size_append, long_append, recorded_append, recorded_one_is, recorded_kinds}
use Rattle.strings.proofs.DueLaws.{grave_join, long_grave, due_none, due_then, due_template}
use Rattle.records.specs.Keep.{Kept, at, add, keep, write, bumped, template_of, Low}
use Rattle.records.specs.declared.Records.{Records}

-- ---- passes in a row

add_join : (c d : Done Mid) (v : Mid) (w : Kept) → add (record { value = v; taken = c.taken + d.taken; templates = c.templates ++ d.templates; flags = join c.flags d.flags }) w ≡ add d (add c w)
add_join c d v w =
    let x = bytes (templates_row c.templates) in
    let y = bytes (templates_row d.templates) in
    let o = recorded_append c.templates d.templates w.out w.st.place in
    let n : w.st.next + (c.taken + d.taken) ≡ w.st.next + c.taken + d.taken = omega arith in
    let p : w.st.place + length (bytes (templates_row (c.templates ++ d.templates))) ≡ w.st.place + length x + length y = omega (arith, size_append c.templates d.templates) in
    let b = due_then w.st.due c.flags d.flags (long_body (templates_row c.templates)) (long_body (templates_row d.templates)) (long_append c.templates d.templates) in
    λ i. at (o i) (record { next = n i; place = p i; due = b i })

pub keep_both : (f : Mid → Mid → Mid) (p q : Pass Mid) (w : Kept) → keep (both f p q) w ≡ keep q (keep p w)
unfolding keep both
keep_both f p q w = add_join (p w.st.next) (q (w.st.next + (p w.st.next).taken)) (f (p w.st.next).value (q (w.st.next + (p w.st.next).taken)).value) w

-- ---- passes that record nothing, or what others record

pub keep_pure : (m : Mid) (w : Kept) → keep (pure m) w ≡ w
unfolding keep pure templates_row bytes long_body recorded
keep_pure m w =
    let n : w.st.next + 0 ≡ w.st.next = omega arith in
    let p : w.st.place + 0 ≡ w.st.place = omega arith in
    λ i. at w.out (record { next = n i; place = p i; due = due_none w.st.due i })

pub keep_map : (f : Mid → Mid) (p : Pass Mid) (w : Kept) → keep (map f p) w ≡ keep p w
unfolding keep map
keep_map f p w = refl

-- a run that is not long
quiet : (p : Pass Mid) (w : Kept) → keep p w ≡ keep (raise (long_if false) p) w
unfolding keep raise
quiet p w = refl

-- ---- a template

module _ (run : Bool) (ps : List Part) (w : Kept) where
  -- its number first, then its dynamic expressions, and itself last
  pub keep_template : keep (raise (long_if run) (gen_template ps)) w ≡ write w.st.next run ps (keep (dynamic_exprs ps) (at w.out (bumped w.st)))
  unfolding keep raise gen_template write template_row templates_row
  keep_template =
      let d = dynamic_exprs ps (w.st.next + 1) in
      let u : List Template = record { number = w.st.next; strings = strings_after [] ps; kinds = kinds_of d.value } ∷ [] in
      let x = bytes (templates_row d.templates) in
      let y = bytes (templates_row u) in
      let v = recorded d.templates w.out w.st.place in
      let o : recorded (d.templates ++ u) w.out w.st.place ≡ recorded_one (template_of w.st.next ps) v (w.st.place + length x) =
      recorded_append d.templates u w.out w.st.place
      ∙ recorded_one_is (record { number = w.st.next; strings = strings_after [] ps; kinds = kinds_of d.value }) v (w.st.place + length x)
      ∙ recorded_kinds w.st.next (strings_after [] ps) (kinds_of d.value) [] v (w.st.place + length x) in
      let n : w.st.next + (1 + d.taken) ≡ w.st.next + 1 + d.taken = omega arith in
      let p : w.st.place + length (bytes (templates_row (d.templates ++ u))) ≡ w.st.place + length x + length y = omega (arith, size_append d.templates u) in
      let l = long_body (templates_row d.templates) in
      let m = long_body (templates_row u) in
      let q : graver w.st.due (graver (grave (join (long_if run) (join (marks ps) d.flags))) (long_due (long_body (templates_row (d.templates ++ u))))) ≡ graver (graver w.st.due (graver (grave d.flags) (long_due l))) (graver (grave (marks ps)) (long_due (run || m))) =
      ap₂ (λ (x : Due) (y : Bool). graver w.st.due (graver x (long_due y)))
      (grave_join (long_if run) (join (marks ps) d.flags) ∙ ap₂ graver (long_grave run) (grave_join (marks ps) d.flags)) (long_append d.templates u)
      ∙ due_template w.st.due (grave (marks ps)) (grave d.flags) run l m in
      λ i. at (o i) (record { next = n i; place = p i; due = q i })

pub keep_gen : (ps : List Part) (w : Kept) → keep (gen_template ps) w ≡ write w.st.next false ps (keep (dynamic_exprs ps) (at w.out (bumped w.st)))
keep_gen ps w = quiet (gen_template ps) w ∙ keep_template false ps w

-- ---- the dynamic expressions of parts, and the elements of an array, one after the other

pub keep_gap : (p : Pass Mid) (ps : List Part) (w : Kept) → keep (dynamic_exprs (gap p ∷ ps)) w ≡ keep (dynamic_exprs ps) (keep p w)
unfolding dynamic_exprs
keep_gap p ps w = keep_both ◌+++◌ p (dynamic_exprs ps) w

pub keep_entry : (e : Entry) (es : List Entry) (w : Kept) → keep (entries_pass (e ∷ es)) w ≡ keep (entries_pass es) (keep (entry_pass e) w)
unfolding entries_pass
keep_entry e es w = keep_both ◌+++◌ (entry_pass e) (entries_pass es) w

pub parts_append : (ps qs : List Part) (w : Kept) → keep (dynamic_exprs (ps ++ qs)) w ≡ keep (dynamic_exprs qs) (keep (dynamic_exprs ps) w)
unfolding dynamic_exprs
parts_append [] qs w = ap (keep (dynamic_exprs qs)) (sym (keep_pure none w))
parts_append (chars b ∷ ps) qs w = parts_append ps qs w
parts_append (mark f ∷ ps) qs w = parts_append ps qs w
parts_append (gap p ∷ ps) qs w = keep_gap p (ps ++ qs) w ∙ parts_append ps qs (keep p w) ∙ ap (keep (dynamic_exprs qs)) (sym (keep_gap p ps w))

pub entries_append : (es fs : List Entry) (w : Kept) → keep (entries_pass (es ++ fs)) w ≡ keep (entries_pass fs) (keep (entries_pass es) w)
unfolding entries_pass
entries_append [] fs w = ap (keep (entries_pass fs)) (sym (keep_pure none w))
entries_append (e ∷ es) fs w = keep_entry e (es ++ fs) w ∙ entries_append es fs (keep (entry_pass e) w) ∙ ap (keep (entries_pass fs)) (sym (keep_entry e es w))

pub parts : Action [] ◌++◌ (λ (ps : List Part). keep (dynamic_exprs ps))
unfolding dynamic_exprs
parts = record { nil = keep_pure none; append = parts_append }

pub entered : Action [] ◌++◌ (λ (es : List Entry). keep (entries_pass es))
unfolding entries_pass
entered = record { nil = keep_pure none; append = entries_append }

-- ---- room

pub keep_low : (p : Pass Mid) (w : Kept) → Low (keep p w) → Low w
unfolding keep
keep_low p w l = record { low_next = omega (arith, l.low_next); low_place = omega (arith, l.low_place) }

pub write_low : (n : ℕ) (run : Bool) (ps : List Part) (w : Kept) → Low (write n run ps w) → Low w
unfolding write
write_low n run ps w l = record { low_next = l.low_next; low_place = omega (arith, l.low_place) }

pub parts_low : Lows Low (λ (ps : List Part). keep (dynamic_exprs ps))
parts_low = record { back = λ ps w l. keep_low (dynamic_exprs ps) w l }

pub entered_low : Lows Low (λ (es : List Entry). keep (entries_pass es))
entered_low = record { back = λ es w l. keep_low (entries_pass es) w l }

-- ---- a template in a function's own words: a number is taken, the dynamic expressions are recorded, and then the template

module _ (p : Pass Mid) (run : Bool) (ps qs : List Part) (w : Kept) (e : keep p w ≡ write w.st.next run ps (keep (dynamic_exprs qs) (at w.out (bumped w.st))))
    {s : Records} (t : s ≡ bumped w.st) where
  pub inner_low : Low (keep p w) → Low (keep (dynamic_exprs qs) (at w.out s))
  inner_low l = subst (λ (x : Records). Low (keep (dynamic_exprs qs) (at w.out x))) (sym t) (write_low w.st.next run ps _ (subst Low e l))

  module _ {v : Kept} (h : v ≡ keep (dynamic_exprs qs) (at w.out s)) where
    inner_is : write w.st.next run ps v ≡ keep p w
    inner_is = ap (write w.st.next run ps) (h ∙ ap (λ (x : Records). keep (dynamic_exprs qs) (at w.out x)) t) ∙ sym e

    pub outer_low : Low (keep p w) → Low (write w.st.next run ps v)
    outer_low l = subst Low (sym inner_is) l

    pub outer_is : {v' : Kept} → v' ≡ write w.st.next run ps v → v' ≡ keep p w
    outer_is g = g ∙ inner_is
