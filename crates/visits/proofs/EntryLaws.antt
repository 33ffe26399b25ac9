-- The entries of merged children, walked: what stands of a run behind an open head, and what is left to do, through each kind of child.
-- Main statements: `Entering`, `entering_start`, `text_room`, `text_on`, `joined_room`, `joined_on`, `other_on`; where the run ends
-- `expr_run`, `expr_room`, `expr_on` and the like; `last_run`, `entering_end`. Assumes nothing.
use mathlib.Core.Path.{◌≡◌, refl, sym, ap, ◌∙◌, subst}
use Prim.Native.Nat.{ℕ, ◌+◌, ◌≤◌, ◌<◌, ◌^◌}
use native.Mathlib.Omega.{arith}
use mathlib.Core.Bool.{Bool, true, false}
use mathlib.Core.List.{List, [], ◌∷◌, ◌++◌, append-nil}
use mathlib.Core.Option.{Option, none, some}
use lib.Dec.{eqb}
use lib.ListN.{length, length-append}
use Rattle.field.specs.Bytes.{Bytes, pick}
use Rattle.field.specs.Row.{Row, read, Ended}
use Rattle.field.specs.Front.{tag_of_front, body_of, behind_of}
use Rattle.field.specs.Put.{put, Wrote}
use Rattle.field.proofs.PutLaws.{put_put, put_nil}
use Rattle.text.specs.Escape.{escape_html}
use Rattle.text.specs.Text.{jsx_text_to_str}
use Rattle.page.specs.Tree.{Contained, nothing_contained, contained, contained_in, expr_in}
use Rattle.spec.specs.Pass as S
use Rattle.spec.specs.Pass.{Mid}
use Rattle.spec.specs.Output.{string_node}
use Rattle.spec.specs.Merge.{Shape, Element, Fragment, still, passed, Child, text, empty, container, element, fragment, spread, flush, joined_text, merge}
use Rattle.spec.specs.Children.{serialize_jsx, spliced, entry_pass, entries, entries_pass}
use Rattle.spec.specs.Transform.{expr, shape_of, fragment_of}
use Rattle.decisions.specs.At.{opts, element_at}
use Rattle.decisions.specs.Becomes.{joins, leaves, as_child}
use Rattle.decisions.proofs.BecomesLaws.{joins_text, joins_nothing, leaves_none, leaves_expr}
use Rattle.strings.proofs.TreeLaws.{kids, held, kids_60, kids_52, kids_30, kids_31, kids_none, kids_other}
use Rattle.found.specs.Finds.{found_at}
use Rattle.walk.specs.declared.state.Walk.{Walk}
use Rattle.walk.specs.See.{World, at, see, act, along, wrap, flushed, Low}
use Rattle.walk.proofs.SeeLaws.{Grows, low_back, low_is, see_grows, see_leaf, see_string, lift_flushed}
use Rattle.walk.proofs.ActLaws.{act_grows, act_entry, act_still, act_no_entries, act_entries_append}
use Rattle.visits.specs.Visiting.{expr_at, found_out}

-- ---- runs

-- a run ends: a 70, where it holds something
abbrev ran : Bytes → World → World
ran [] w = w
ran (b ∷ buf) w = see (string_node (b ∷ buf)) w

ran_page : (buf : Bytes) (w : World) → w.st.page + length buf ≤ (ran buf w).st.page
ran_page [] w = omega arith
ran_page (b ∷ buf) w = omega (arith, ap (λ (x : World). x.st.page) (see_leaf 0x70 (b ∷ buf) w))

-- as code ends it
ran_is : (buf : Bytes) (n : ℕ) (w : World) → n ≡ length buf → flushed n (at w.templates (put w.page (w.st.page + 3) buf) w.st) ≡ ran buf w
ran_is [] n w q =
    ap (λ (k : ℕ). flushed k (at w.templates (put w.page (w.st.page + 3) []) w.st)) q
    ∙ ap (λ (p : Bytes). at w.templates p w.st) (put_nil w.page (w.st.page + 3))
ran_is (b ∷ buf) n w q = see_string (b ∷ buf) n w q λ z. omega (arith, q, z)

-- the state that is left does not go by the outs
flushed_state : (n : ℕ) (t t' p : Bytes) (st : Walk) → (flushed n (at t p st)).st ≡ (flushed n (at t' p st)).st
flushed_state n t t' p st = on (eqb n 0)
  where
    on : (b : Bool) → (pick b (at t p st) (wrap 0x70 st.page (along (3 + n) (at t p st)))).st ≡ (pick b (at t' p st) (wrap 0x70 st.page (along (3 + n) (at t' p st)))).st
    on true = refl
    on false = refl

-- ---- the entries of the children that are left, with the run so far

abbrev pub entering : Bytes → List Child → World → World
entering buf cs w = act (entries_pass (entries (merge false false buf cs))) w

flush_entries : (buf : Bytes) (cs : List Child) (w : World) → act (entries_pass (entries (flush buf cs))) w ≡ act (entries_pass (entries cs)) (ran buf w)
unfolding flush entries
flush_entries [] cs w = refl
flush_entries (b ∷ buf) cs w =
    act_entry (still (string_node (b ∷ buf))) (entries cs) w ∙ ap (act (entries_pass (entries cs))) (act_still (string_node (b ∷ buf)) w)

module _ (buf : Bytes) (cs : List Child) (w : World) where
  enter_text : (t : Bytes) → entering buf (text t ∷ cs) w ≡ entering (buf ++ jsx_text_to_str t false false) cs w
  unfolding merge
  enter_text t = refl

  enter_empty : entering buf (empty ∷ cs) w ≡ entering buf cs w
  unfolding merge
  enter_empty = refl

  enter_spread : (m : Mid) → entering buf (spread m ∷ cs) w ≡ entering buf cs w
  unfolding merge
  enter_spread m = refl

  enter_joined : (s : Shape) (m : Mid) {b : Bytes} → joined_text s ≡ some b → entering buf (container s m ∷ cs) w ≡ entering (buf ++ b) cs w
  unfolding merge
  enter_joined s m {b} e =
      ap (λ (j : Option Bytes). act (entries_pass (entries (elim j [ some b ↦ merge false false (buf ++ b) cs | none ↦ flush buf (container s m ∷ merge false false [] cs) ]))) w) e

  enter_container : (s : Shape) (m : Mid) → joined_text s ≡ none → entering buf (container s m ∷ cs) w ≡ entering [] cs (see m (ran buf w))
  unfolding merge entries
  enter_container s m e =
      ap (λ (j : Option Bytes). act (entries_pass (entries (elim j [ some b ↦ merge false false (buf ++ b) cs | none ↦ flush buf (container s m ∷ merge false false [] cs) ]))) w) e
      ∙ flush_entries buf (container s m ∷ merge false false [] cs) w
      ∙ act_entry (still m) (entries (merge false false [] cs)) (ran buf w)
      ∙ ap (entering [] cs) (act_still m (ran buf w))

  enter_element : (e : Element) → entering buf (element e ∷ cs) w ≡ entering [] cs (act (serialize_jsx e) (ran buf w))
  unfolding merge entries entry_pass
  enter_element e =
      flush_entries buf (element e ∷ merge false false [] cs) w ∙ act_entry (passed (serialize_jsx e)) (entries (merge false false [] cs)) (ran buf w)

  enter_fragment : (f : Fragment) → entering buf (fragment f ∷ cs) w ≡ entering [] cs (act (entries_pass (spliced f.to_expr)) (ran buf w))
  unfolding merge entries
  enter_fragment f =
      flush_entries buf (fragment f ∷ merge false false [] cs) w ∙ act_entries_append (spliced f.to_expr) (entries (merge false false [] cs)) (ran buf w)

enter_none : (buf : Bytes) (w : World) → entering buf [] w ≡ ran buf w
unfolding merge entries
enter_none buf w = flush_entries buf [] w ∙ act_no_entries (ran buf w)

-- the run is written in the end
flush_page : (buf : Bytes) (cs : List Child) (w : World) → w.st.page + length buf ≤ (act (entries_pass (entries (flush buf cs))) w).st.page
flush_page buf cs w =
    omega (arith, ran_page buf w, (act_grows (entries_pass (entries cs)) (ran buf w)).g_page, ap (λ (x : World). x.st.page) (flush_entries buf cs w))

run_page : (buf : Bytes) (cs : List Child) (w : World) → w.st.page + length buf ≤ (entering buf cs w).st.page
unfolding merge
run_page buf [] w = flush_page buf [] w
run_page buf (text t ∷ cs) w =
    let j : Bytes = jsx_text_to_str t false false in
    omega (arith, run_page (buf ++ j) cs w, length-append buf j)
run_page buf (empty ∷ cs) w = run_page buf cs w
run_page buf (container s m ∷ cs) w = on (joined_text s) λ b. omega (arith, run_page (buf ++ b) cs w, length-append buf b)
  where
    on : (j : Option Bytes) → ((b : Bytes) → w.st.page + length buf ≤ (entering (buf ++ b) cs w).st.page) →
        w.st.page + length buf ≤ (act (entries_pass (entries (elim j [ some b ↦ merge false false (buf ++ b) cs | none ↦ flush buf (container s m ∷ merge false false [] cs) ]))) w).st.page
    on (some b) f = f b
    on none f = flush_page buf (container s m ∷ merge false false [] cs) w
run_page buf (element e ∷ cs) w = flush_page buf (element e ∷ merge false false [] cs) w
run_page buf (fragment f ∷ cs) w = flush_page buf (fragment f ∷ merge false false [] cs) w
run_page buf (spread m ∷ cs) w = run_page buf cs w

-- ---- a container, with the run so far

module _ (skip props : Bytes) (buf : Bytes) (cs : List Child) (w : World) where
  held_joined : (x : Contained) {u : Bytes} → joins u ≡ as_child x → entering buf (held skip props x ∷ cs) w ≡ entering (buf ++ escape_html u) cs w
  unfolding as_child
  held_joined nothing_contained q = enter_empty buf cs w ∙ ap (λ (b : Bytes). entering b cs w) (sym (ap (λ (j : Bytes). buf ++ j) (joins_nothing q) ∙ append-nil buf))
  held_joined (contained e) q = enter_joined buf cs w (shape_of e) (expr (opts skip props) e S.none) (joins_text (shape_of e) q)

  held_apart : (r : Row) {z : Bool} → leaves z ≡ as_child (contained_in r) →
      entering buf (held skip props (contained_in r) ∷ cs) w ≡ entering [] cs (see (expr (opts skip props) (expr_in r) S.none) (ran buf w))
  unfolding as_child
  held_apart r {z} q =
      let e = expr_in r in
      let h : contained_in r ≡ contained e = leaves_expr r q in
      ap (λ (x : Contained). entering buf (held skip props x ∷ cs) w) h
      ∙ enter_container buf cs w (shape_of e) (expr (opts skip props) e S.none) (leaves_none (shape_of e) (q ∙ ap as_child h))

-- ---- the loop: page out is base with a run of n bytes behind an open head, and the whole is to end at total

module _ (skip props : Bytes) (total : World) where
  pub record Entering (templates page : Bytes) (cur : Walk) (t : Bytes) (n : ℕ) : Type 0 where
    pub base : Bytes
    pub buf : Bytes
    pub page_is : page ≡ put base (cur.page + 3) buf
    pub length_is : n ≡ length buf
    pub left : entering buf (kids skip props t) (at templates base cur) ≡ total

  -- no run yet
  pub entering_start : (templates page : Bytes) (cur : Walk) (t : Bytes) → entering [] (kids skip props t) (at templates page cur) ≡ total → Entering templates page cur t 0
  entering_start templates page cur t e = record { base = page; buf = []; page_is = sym (put_nil page (cur.page + 3)); length_is = refl; left = e }

  module _ {templates page : Bytes} {cur : Walk} {t : Bytes} {n : ℕ} (m : Entering templates page cur t n) where
    abbrev here : World
    here = at templates m.base cur

    -- ---- the run grows by j, and r is left
    module _ (j r : Bytes) (z : entering m.buf (kids skip props t) here ≡ entering (m.buf ++ j) (kids skip props r) here) where
      more_room : Low total.st → cur.page + 3 + n + length j < 2 ^ 63
      more_room low =
          omega (arith, run_page (m.buf ++ j) (kids skip props r) here, ap (λ (x : World). x.st.page) (sym z ∙ m.left), length-append m.buf j, m.length_is, low.low_page)

      more_on : {page' : Bytes} {n' : ℕ} → Wrote page (cur.page + 3 + n) j page' (cur.page + 3 + n') → Entering templates page' cur r n'
      more_on {page'} {n'} v =
          let k : cur.page + 3 + n ≡ cur.page + 3 + length m.buf = ap (λ (x : ℕ). cur.page + 3 + x) m.length_is in
          record {
            base = m.base;
            buf = m.buf ++ j;
            page_is =
                v.out_is ∙ ap (λ (x : Bytes). put x (cur.page + 3 + n) j) m.page_is ∙ ap (λ (x : ℕ). put (put m.base (cur.page + 3) m.buf) x j) k
                ∙ put_put m.base (cur.page + 3) m.buf j;
            length_is = omega (arith, v.end_is, m.length_is, length-append m.buf j);
            left = sym z ∙ m.left;
          }

    -- ---- the run ends
    ended_run : flushed n (at templates page cur) ≡ ran m.buf here
    ended_run = ap (λ (x : Bytes). flushed n (at templates x cur)) m.page_is ∙ ran_is m.buf n here m.length_is

    run_low : Low (ran m.buf here).st → Low (flushed n (at [] page cur)).st
    run_low low = subst Low (flushed_state n templates [] page cur) (low_is ended_run low)

    flushed_run : {page₁ : Bytes} {cur₁ : Walk} → at [] page₁ cur₁ ≡ flushed n (at [] page cur) → at templates page₁ cur₁ ≡ ran m.buf here
    flushed_run {page₁} {cur₁} u = lift_flushed templates page page₁ cur cur₁ n u ∙ ended_run

    -- then X is done, and r is left
    module _ (X : World → World) (grows : (w : World) → Grows w (X w)) (r : Bytes) (z : entering m.buf (kids skip props t) here ≡ entering [] (kids skip props r) (X (ran m.buf here))) where
      done_low : Low total.st → Low (X (ran m.buf here)).st
      done_low low =
          low_back (act_grows (entries_pass (entries (merge false false [] (kids skip props r)))) (X (ran m.buf here))) (low_is (sym z ∙ m.left) low)

      run_room : Low total.st → Low (flushed n (at [] page cur)).st
      run_room low = run_low (low_back (grows (ran m.buf here)) (done_low low))

      module _ {page₁ : Bytes} {cur₁ : Walk} (u : at [] page₁ cur₁ ≡ flushed n (at [] page cur)) where
        done_room : Low total.st → Low (X (at templates page₁ cur₁)).st
        done_room low = low_is (ap X (flushed_run u)) (done_low low)

        done_on : {templates₂ page₂ : Bytes} {cur₂ : Walk} → at templates₂ page₂ cur₂ ≡ X (at templates page₁ cur₁) → Entering templates₂ page₂ cur₂ r 0
        done_on {templates₂} {page₂} {cur₂} v =
            entering_start templates₂ page₂ cur₂ r (ap (entering [] (kids skip props r)) (v ∙ ap X (flushed_run u)) ∙ sym z ∙ m.left)

    -- ---- by the tag k of the field in front of t
    module _ (k : ℕ) (e : k ≡ tag_of_front t) where
      module _ {b r : Bytes} (p : b ≡ body_of t) (q : r ≡ behind_of t) where
        on_60 : k ≡ 0x60 → entering m.buf (kids skip props t) here ≡ entering (m.buf ++ jsx_text_to_str b false false) (kids skip props r) here
        on_60 g =
            ap (λ (cs : List Child). entering m.buf cs here) (kids_60 skip props t k e p q g) ∙ enter_text m.buf (kids skip props r) here b

        on_52 : k ≡ 0x52 → {u : Bytes} → joins u ≡ as_child (contained_in (read b)) →
            entering m.buf (kids skip props t) here ≡ entering (m.buf ++ escape_html u) (kids skip props r) here
        on_52 g j =
            ap (λ (cs : List Child). entering m.buf cs here) (kids_52 skip props t k e p q g)
            ∙ held_joined skip props m.buf (kids skip props r) here (contained_in (read b)) j

        ends_52 : k ≡ 0x52 → {z : Bool} → leaves z ≡ as_child (contained_in (read b)) →
            entering m.buf (kids skip props t) here ≡ entering [] (kids skip props r) (see (expr_at skip props b) (ran m.buf here))
        ends_52 g j =
            ap (λ (cs : List Child). entering m.buf cs here) (kids_52 skip props t k e p q g) ∙ held_apart skip props m.buf (kids skip props r) here (read b) j

        ends_30 : k ≡ 0x30 → entering m.buf (kids skip props t) here ≡ entering [] (kids skip props r) (act (serialize_jsx (element_at skip props b)) (ran m.buf here))
        ends_30 g =
            ap (λ (cs : List Child). entering m.buf cs here) (kids_30 skip props t k e p q g) ∙ enter_element m.buf (kids skip props r) here (element_at skip props b)

        ends_31 : k ≡ 0x31 → entering m.buf (kids skip props t) here ≡ entering [] (kids skip props r) (act (found_out true (found_at skip props b)) (ran m.buf here))
        unfolding fragment_of found_out
        ends_31 g =
            ap (λ (cs : List Child). entering m.buf cs here) (kids_31 skip props t k e p q g) ∙ enter_fragment m.buf (kids skip props r) here (fragment_of (kids skip props b))

      -- a text, and a container that joins the run
      module _ {b : Bytes} (p : b ≡ body_of t) where
        pub text_room : k ≡ 0x60 → Low total.st → cur.page + 3 + n + length (jsx_text_to_str b false false) < 2 ^ 63
        text_room g low = more_room (jsx_text_to_str b false false) (behind_of t) (on_60 p refl g) low

        pub text_on : k ≡ 0x60 → {r : Bytes} → r ≡ behind_of t → {page' : Bytes} {n' : ℕ} →
            Wrote page (cur.page + 3 + n) (jsx_text_to_str b false false) page' (cur.page + 3 + n') → Entering templates page' cur r n'
        text_on g {r} q v = more_on (jsx_text_to_str b false false) r (on_60 p q g) v

        module _ (g : k ≡ 0x52) where
          module _ {u : Bytes} (j : joins u ≡ as_child (contained_in (read b))) where
            pub joined_room : Low total.st → cur.page + 3 + n + length (escape_html u) < 2 ^ 63
            joined_room low = more_room (escape_html u) (behind_of t) (on_52 p refl g j) low

            pub joined_on : {r : Bytes} → r ≡ behind_of t → {page' : Bytes} {n' : ℕ} → Wrote page (cur.page + 3 + n) (escape_html u) page' (cur.page + 3 + n') → Entering templates page' cur r n'
            joined_on {r} q v = more_on (escape_html u) r (on_52 p q g j) v

          -- one that does not
          module _ {z : Bool} (j : leaves z ≡ as_child (contained_in (read b))) where
            pub expr_run : Low total.st → Low (flushed n (at [] page cur)).st
            expr_run low = run_room (see (expr_at skip props b)) (see_grows (expr_at skip props b)) (behind_of t) (ends_52 p refl g j) low

            module _ {page₁ : Bytes} {cur₁ : Walk} (u : at [] page₁ cur₁ ≡ flushed n (at [] page cur)) where
              pub expr_room : Low total.st → Low (see (expr_at skip props b) (at templates page₁ cur₁)).st
              expr_room low = done_room (see (expr_at skip props b)) (see_grows (expr_at skip props b)) (behind_of t) (ends_52 p refl g j) u low

              pub expr_on : {r : Bytes} → r ≡ behind_of t → {templates₂ page₂ : Bytes} {cur₂ : Walk} → at templates₂ page₂ cur₂ ≡ see (expr_at skip props b) (at templates page₁ cur₁) → Entering templates₂ page₂ cur₂ r 0
              expr_on {r} q v = done_on (see (expr_at skip props b)) (see_grows (expr_at skip props b)) r (ends_52 p q g j) u v

        module _ (g : k ≡ 0x30) {page₁ : Bytes} {cur₁ : Walk} (u : at [] page₁ cur₁ ≡ flushed n (at [] page cur)) where
          pub element_room : Low total.st → Low (act (serialize_jsx (element_at skip props b)) (at templates page₁ cur₁)).st
          element_room low =
              done_room (act (serialize_jsx (element_at skip props b))) (act_grows (serialize_jsx (element_at skip props b))) (behind_of t) (ends_30 p refl g) u low

          pub element_on : {r : Bytes} → r ≡ behind_of t → {templates₂ page₂ : Bytes} {cur₂ : Walk} → at templates₂ page₂ cur₂ ≡ act (serialize_jsx (element_at skip props b)) (at templates page₁ cur₁) → Entering templates₂ page₂ cur₂ r 0
          element_on {r} q v = done_on (act (serialize_jsx (element_at skip props b))) (act_grows (serialize_jsx (element_at skip props b))) r (ends_30 p q g) u v

        module _ (g : k ≡ 0x31) {page₁ : Bytes} {cur₁ : Walk} (u : at [] page₁ cur₁ ≡ flushed n (at [] page cur)) where
          pub fragment_room : Low total.st → Low (act (found_out true (found_at skip props b)) (at templates page₁ cur₁)).st
          fragment_room low =
              done_room (act (found_out true (found_at skip props b))) (act_grows (found_out true (found_at skip props b))) (behind_of t) (ends_31 p refl g) u low

          pub fragment_on : {r : Bytes} → r ≡ behind_of t → {templates₂ page₂ : Bytes} {cur₂ : Walk} → at templates₂ page₂ cur₂ ≡ act (found_out true (found_at skip props b)) (at templates page₁ cur₁) → Entering templates₂ page₂ cur₂ r 0
          fragment_on {r} q v = done_on (act (found_out true (found_at skip props b))) (act_grows (found_out true (found_at skip props b))) r (ends_31 p q g) u v

      pub element_run : k ≡ 0x30 → Low total.st → Low (flushed n (at [] page cur)).st
      element_run g low =
          let b = body_of t in
          run_room (act (serialize_jsx (element_at skip props b))) (act_grows (serialize_jsx (element_at skip props b))) (behind_of t) (ends_30 refl refl g) low

      pub fragment_run : k ≡ 0x31 → Low total.st → Low (flushed n (at [] page cur)).st
      fragment_run g low =
          let b = body_of t in
          run_room (act (found_out true (found_at skip props b))) (act_grows (found_out true (found_at skip props b))) (behind_of t) (ends_31 refl refl g) low

      -- a spread, or no child
      pub other_on : {r : Bytes} → r ≡ behind_of t → (k ≡ 256 → ⊥) → (k ≡ 0x60 → ⊥) → (k ≡ 0x52 → ⊥) → (k ≡ 0x30 → ⊥) → (k ≡ 0x31 → ⊥) → Entering templates page cur r n
      other_on {r} q h a b c d =
          record {
            base = m.base;
            buf = m.buf;
            page_is = m.page_is;
            length_is = m.length_is;
            left = sym (kids_other skip props t k e q (λ (cs : List Child). entering m.buf cs here) (λ x cs. enter_spread m.buf cs here x) h a b c d) ∙ m.left;
          }

    -- ---- no child is left
    module _ (i : Ended (read t)) where
      ends : entering m.buf (kids skip props t) here ≡ ran m.buf here
      ends = ap (λ (cs : List Child). entering m.buf cs here) (kids_none skip props t i) ∙ enter_none m.buf here

      pub last_run : Low total.st → Low (flushed n (at [] page cur)).st
      last_run low = run_low (low_is (sym ends ∙ m.left) low)

      pub entering_end : {page₁ : Bytes} {cur₁ : Walk} → at [] page₁ cur₁ ≡ flushed n (at [] page cur) → at templates page₁ cur₁ ≡ total
      entering_end u = flushed_run u ∙ sym ends ∙ m.left
