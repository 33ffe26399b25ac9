-- What the children of a call give, walked: what it is by its kind and its place, and what the code asks for and leaves by that.
-- Main statements: `twice_parts`; `found_short`; for each kind what is asked for and what is left, `text_room` and `text_done` and the like.
-- Assumes nothing.
use mathlib.Core.Path.{◌≡◌, refl, sym, ap, ◌∙◌, subst}
use Prim.Native.Nat.{ℕ, ◌+◌, ◌≤◌, ◌<◌, ◌^◌}
use native.Mathlib.Omega.{arith}
use mathlib.Core.Bool.{Bool, true, false, not, false≢true}
use mathlib.Core.List.{List, [], ◌∷◌, ◌++◌}
use mathlib.Core.Option.{Option, none, some}
use lib.Dec.{eqb}
use lib.ListN.{length, drop, length-drop}
use lib.Seq.{length-take-le}
use borrow.Author.Tests.{ne_eqb}
use Rattle.field.specs.Bytes.{Bytes, pick}
use Rattle.field.specs.Row.{Row, read}
use Rattle.field.specs.Front.{tag_of_front, body_of}
use Rattle.field.proofs.FrontLaws.{body_less}
use Rattle.text.specs.Text.{jsx_text_to_str}
use Rattle.page.specs.Number.{is_number, is_minus}
use Rattle.page.specs.Page as P
use Rattle.page.specs.Page.{Options}
use Rattle.page.specs.Tree.{choose, expr_by, expr_in, items_in}
use Rattle.spec.specs.Pass as S
use Rattle.spec.specs.Pass.{Pass, pure, Mid, node, Part, chars, gap, over}
use Rattle.spec.specs.Output.{string_node, dynamic_exprs, gen_template}
use Rattle.spec.specs.Merge as M
use Rattle.spec.specs.Merge.{Entry, still, nothing_found, one_found, array_found, Child, text, empty, container, element, fragment, spread, flush, joined_text, merge, long_run, short_runs}
use Rattle.spec.specs.Children.{maybe_wrap, children_to_string, serialize_jsx, spliced, entry_pass, entries_pass, found_of}
use Rattle.spec.specs.Transform.{expr, items}
use Rattle.decisions.specs.At.{opts, element_at}
use Rattle.decisions.proofs.Series.{any_front, expr_76}
use Rattle.strings.specs.Carve.{child_parts}
use Rattle.strings.proofs.FrontSizes.{body_le}
use Rattle.strings.proofs.MergeLaws.{direct, child_direct}
use Rattle.found.specs.Finds.{part, kids, entries_at, found_at, template_pass, Known, Finds, RunFound}
use Rattle.found.specs.declared.Kind.{Kind}
use Rattle.found.specs.declared.Kind.TheVariants as K
use Rattle.walk.specs.declared.state.Walk.{Walk}
use Rattle.walk.specs.See.{World, at, see, act, begun, numbered, wrap, begun_if, wrap_if, to_page, hole_mid, Low}
use Rattle.walk.proofs.SeeLaws.{plain, low_is, see_node, see_state, lift}
use Rattle.walk.proofs.ActLaws.{act_grows, act_long, act_gen_template, act_chars, act_gap, act_dynamic_append, act_no_entries, act_one_entry, act_still, act_nothing_found, act_one_found, act_array_found, elements_of, act_found_expr, act_spliced_expr}
use Rattle.visits.specs.Visiting.{Place, expr_at, items_at, found_out, Given, Room, Spliced}
use Rattle.visits.proofs.FieldLaws.{template_begin, template_inner, template_close, template_done, field_if_begin, field_if_inner, field_if_close, field_if_done, room_part, room_is}
use Rattle.visits.proofs.PartLaws.{parts_direct}

-- ---- children that are merged twice leave the gaps that they leave when they are merged once

-- a run that is flushed leaves none, and neither does one that is too long
flush_gaps : (buf : Bytes) (cs : List Child) (w : World) → act (dynamic_exprs (direct false (short_runs (flush buf cs)))) w ≡ act (dynamic_exprs (direct false (short_runs cs))) w
unfolding flush short_runs direct child_direct
flush_gaps [] cs w = refl
flush_gaps (b ∷ buf) cs w = on (over (b ∷ buf))
  where
    on : (x : Bool) → act (dynamic_exprs (direct false (pick x (short_runs cs) (text (b ∷ buf) ∷ short_runs cs)))) w ≡ act (dynamic_exprs (direct false (short_runs cs))) w
    on true = refl
    on false = act_chars _ (direct false (short_runs cs)) w

again_gaps : (buf : Bytes) (cs : List Child) (w : World) → act (dynamic_exprs (direct false (short_runs (merge false false buf cs)))) w ≡ act (dynamic_exprs (direct false cs)) w
unfolding merge short_runs direct child_direct child_parts
again_gaps buf [] w = flush_gaps buf [] w
again_gaps buf (text t ∷ cs) w = again_gaps (buf ++ jsx_text_to_str t false false) cs w ∙ sym (act_chars _ (direct false cs) w)
again_gaps buf (empty ∷ cs) w = again_gaps buf cs w
again_gaps buf (container s m ∷ cs) w = on (joined_text s) refl (λ b. again_gaps (buf ++ b) cs w) (again_gaps [] cs (act (pure (maybe_wrap s m)) w))
  where
    on : (j : Option Bytes) → joined_text s ≡ j →
        ((b : Bytes) → act (dynamic_exprs (direct false (short_runs (merge false false (buf ++ b) cs)))) w ≡ act (dynamic_exprs (direct false cs)) w) →
        act (dynamic_exprs (direct false (short_runs (merge false false [] cs)))) (act (pure (maybe_wrap s m)) w) ≡ act (dynamic_exprs (direct false cs)) (act (pure (maybe_wrap s m)) w) →
        act (dynamic_exprs (direct false (short_runs (elim j [ some b ↦ merge false false (buf ++ b) cs | none ↦ flush buf (container s m ∷ merge false false [] cs) ])))) w
        ≡ act (dynamic_exprs ((elim j [ some b ↦ chars b ∷ [] | none ↦ gap (pure (maybe_wrap s m)) ∷ [] ]) ++ direct false cs)) w
    on (some b) q f g = f b ∙ sym (act_chars b (direct false cs) w)
    on none q f g =
        let ps : List Part = direct false (short_runs (merge false false [] cs)) in
        flush_gaps buf (container s m ∷ merge false false [] cs) w
        ∙ ap (λ (j : Option Bytes). act (dynamic_exprs ((elim j [ some b ↦ chars b ∷ [] | none ↦ gap (pure (maybe_wrap s m)) ∷ [] ]) ++ ps)) w) q
        ∙ act_gap (pure (maybe_wrap s m)) ps w ∙ g ∙ sym (act_gap (pure (maybe_wrap s m)) (direct false cs) w)
again_gaps buf (element e ∷ cs) w =
    flush_gaps buf (element e ∷ merge false false [] cs) w
    ∙ act_dynamic_append e.to_string_vec (direct false (short_runs (merge false false [] cs))) w
    ∙ again_gaps [] cs (act (dynamic_exprs e.to_string_vec) w) ∙ sym (act_dynamic_append e.to_string_vec (direct false cs) w)
again_gaps buf (fragment f ∷ cs) w =
    flush_gaps buf (fragment f ∷ merge false false [] cs) w
    ∙ act_dynamic_append f.to_string (direct false (short_runs (merge false false [] cs))) w
    ∙ again_gaps [] cs (act (dynamic_exprs f.to_string) w) ∙ sym (act_dynamic_append f.to_string (direct false cs) w)
again_gaps buf (spread m ∷ cs) w = again_gaps buf cs w

pub twice_parts : (cs : List Child) (w : World) →
    act (dynamic_exprs (children_to_string false (short_runs (merge false false [] cs)))) w ≡ act (dynamic_exprs (children_to_string false cs)) w
twice_parts cs w = parts_direct false (short_runs (merge false false [] cs)) w ∙ again_gaps [] cs w ∙ sym (parts_direct false cs w)

-- ---- what was found, as one expression or spliced into an array

module _ (w : World) where
  out_nothing : (b : Bool) → act (found_out b nothing_found) w ≡ w
  unfolding found_out spliced
  out_nothing true = act_no_entries w
  out_nothing false = act_nothing_found w

  out_one : (b : Bool) (e : Entry) → act (found_out b (one_found e)) w ≡ act (entry_pass e) w
  unfolding found_out spliced
  out_one true e = act_one_entry e w
  out_one false e = act_one_found e w

  out_still : (b : Bool) (m : Mid) → act (found_out b (one_found (still m))) w ≡ see m w
  out_still b m = out_one b (still m) ∙ act_still m w

  out_passed : (b : Bool) (p : Pass Mid) → act (found_out b (one_found (M.passed p))) w ≡ act p w
  unfolding entry_pass
  out_passed b p = out_one b (M.passed p)

  out_array : (b : Bool) (es : List Entry) → act (found_out b (array_found es)) w ≡ wrap_if (not b) 0x76 w.st.page (act (entries_pass es) (begun_if (not b) w))
  unfolding found_out spliced
  out_array true es = refl
  out_array false es = act_array_found es w

  out_hole : (b : Bool) → act (found_out b (array_found (still (node 0x78 [] S.none S.none) ∷ []))) w ≡ see (hole_mid b) w
  unfolding found_out spliced
  out_hole true = act_one_entry (still (node 0x78 [] S.none S.none)) w ∙ act_still (node 0x78 [] S.none S.none) w
  out_hole false =
      let h : Mid = node 0x78 [] S.none S.none in
      act_array_found (still h ∷ []) w
      ∙ ap (wrap 0x76 w.st.page) (act_one_entry (still h) (begun w) ∙ act_still h (begun w))
      ∙ sym (see_node 0x76 h w)

-- ---- an expression

-- one that is no array literal is its own only element
abbrev pub Alone : Options → P.Expr → Type 0
Alone o e = elements_of o e ≡ expr o e S.none

chosen : (Q : P.Expr → Type 0) (c : Bool) (x y : Unit {0} → P.Expr) → Q (x tt) → Q (y tt) → Q (choose c x y)
unfolding choose
chosen Q true x y p q = p
chosen Q false x y p q = q

passed_by : (Q : P.Expr → Type 0) (c : Bool) (x y : Unit {0} → P.Expr) → c ≡ false → Q (y tt) → Q (choose c x y)
unfolding choose
passed_by Q true x y h q = absurd (false≢true (sym h))
passed_by Q false x y h q = q

module _ (o : Options) where
  alone_by : (t : ℕ) (f : Bytes) (is : Unit {0} → P.Items) (ps : Unit {0} → P.Pieces) (el fr : Unit {0} → P.Tag) → eqb t 0x76 ≡ false → Alone o (expr_by t f is ps el fr)
  unfolding expr_by elements_of
  alone_by t f is ps el fr h =
      chosen (Alone o) (eqb t 0x70) _ _ refl (chosen (Alone o) (is_number t) _ _ refl (chosen (Alone o) (eqb t 0x72) _ _ refl
      (chosen (Alone o) (eqb t 0x74) _ _ refl (chosen (Alone o) (is_minus t) _ _ refl (passed_by (Alone o) (eqb t 0x76) _ _ h
      (chosen (Alone o) (eqb t 0x79) _ _ refl (chosen (Alone o) (eqb t 0x30) _ _ refl (chosen (Alone o) (eqb t 0x31) _ _ refl refl))))))))

  alone : (u : Bytes) → (tag_of_front u ≡ 0x76 → ⊥) → Alone o (expr_in (read u))
  unfolding expr_in elements_of
  alone u h =
      let n = tag_of_front u in
      any_front (λ (r : Row). Alone o (expr_in r)) u n refl refl (λ b. refl) λ f j. alone_by n f _ _ _ _ (ne_eqb n 0x76 h)

  elements_76 : (u : Bytes) → tag_of_front u ≡ 0x76 → {c : Bytes} → c ≡ body_of u → elements_of o (expr_in (read u)) ≡ items o (items_in (read c))
  unfolding elements_of
  elements_76 u h {c} q = ap (elements_of o) (expr_76 u (tag_of_front u) refl h) ∙ ap (λ (x : Bytes). items o (items_in (read x))) (sym q)

out_expr : (o : Options) (e : P.Expr) (b : Bool) (w : World) → (b ≡ true → Alone o e) → act (found_out b (found_of (expr o e S.none))) w ≡ see (expr o e S.none) w
unfolding found_out
out_expr o e true w h = act_spliced_expr o w e ∙ ap (λ (m : Mid). see m w) (h refl)
out_expr o e false w h = act_found_expr o w e

-- ---- what the children in s give: f is its kind and its place, and u what stands there

abbrev pub given_out : (skip props s : Bytes) → Bool → World → World
given_out skip props s b w = act (found_out b (found_at skip props s)) w

module _ {skip props s : Bytes} {f : Place} (g : Given skip props s f) {u : Bytes} (ue : u ≡ part s f) where
  found_as : (k : Kind) → f.kind ≡ k → Finds skip props (found_at skip props s) k u
  found_as k e =
      subst (λ (x : Bytes). Finds skip props (found_at skip props s) k x) (sym ue)
      (subst (λ (x : Kind). Finds skip props (found_at skip props s) x (part s f)) e g.finds)

  pub many_known : {d : ℕ} → f.kind ≡ K.Many d → Known d skip u
  many_known {d} k = (found_as (K.Many d) k).1.1

  pub found_short : length u ≤ length s
  found_short = omega (arith, g.within, ap length ue, length-take-le f.len (drop f.from s) (omega (arith, g.within, length-drop f.from s)))

  -- an element lies in its field
  pub element_short : f.kind ≡ K.Element → {c : Bytes} → c ≡ body_of u → length c < length s
  element_short k q =
      let n : tag_of_front u ≡ 0x30 = (found_as K.Element k).1 in
      omega (arith, found_short, body_less u (tag_of_front u) refl (λ z. omega (arith, n, z)) q)

  pub items_short : {c : Bytes} → c ≡ body_of u → length c ≤ length s
  items_short q = omega (arith, found_short, body_le u, ap length q)

  module _ (b : Bool) (t p : Bytes) (st : Walk) where
    is_found : {x : M.Found} → found_at skip props s ≡ x → given_out skip props s b (at t p st) ≡ act (found_out b x) (at t p st)
    is_found e = ap (λ (x : M.Found). act (found_out b x) (at t p st)) e

    pub nothing_done : f.kind ≡ K.Nothing → at t p st ≡ given_out skip props s b (at t p st)
    nothing_done k = sym (is_found (found_as K.Nothing k) ∙ out_nothing (at t p st) b)

    pub item_done : f.kind ≡ K.Item → at t p st ≡ given_out skip props s b (at t p st)
    item_done k = absurd (found_as K.Item k)

    -- what code writes to page out alone
    module _ (m : Mid) (l : plain m ≡ true) (e : given_out skip props s b (at t p st) ≡ see m (at t p st)) where
      leaf_room : Low (given_out skip props s b (at t p st)).st → Low (see m (at [] p st)).st
      leaf_room low = subst Low (see_state m t [] p p st) (low_is (sym e) low)

      leaf_done : {p' : Bytes} {st' : Walk} → at [] p' st' ≡ see m (at [] p st) → at t p' st' ≡ given_out skip props s b (at t p st)
      leaf_done {p'} {st'} d = lift t p p' st st' m l d ∙ sym e

    module _ (k : f.kind ≡ K.Text) {c : Bytes} (q : c ≡ body_of u) where
      text_is : given_out skip props s b (at t p st) ≡ see (string_node (jsx_text_to_str c false true)) (at t p st)
      text_is =
          is_found (found_as K.Text k) ∙ out_still (at t p st) b (string_node (jsx_text_to_str (body_of u) false true))
          ∙ ap (λ (x : Bytes). see (string_node (jsx_text_to_str x false true)) (at t p st)) (sym q)

      pub text_room : Low (given_out skip props s b (at t p st)).st → Low (see (string_node (jsx_text_to_str c false true)) (at [] p st)).st
      text_room = leaf_room (string_node (jsx_text_to_str c false true)) refl text_is

      pub text_done : {p' : Bytes} {st' : Walk} → at [] p' st' ≡ see (string_node (jsx_text_to_str c false true)) (at [] p st) → at t p' st' ≡ given_out skip props s b (at t p st)
      text_done = leaf_done (string_node (jsx_text_to_str c false true)) refl text_is

    hole_plain : (x : Bool) → plain (hole_mid x) ≡ true
    hole_plain true = refl
    hole_plain false = refl

    module _ (k : f.kind ≡ K.Hole) where
      hole_is : given_out skip props s b (at t p st) ≡ see (hole_mid b) (at t p st)
      hole_is = is_found (found_as K.Hole k) ∙ out_hole (at t p st) b

      pub hole_room : Low (given_out skip props s b (at t p st)).st → Low (see (hole_mid b) (at [] p st)).st
      hole_room = leaf_room (hole_mid b) (hole_plain b) hole_is

      pub hole_done : {p' : Bytes} {st' : Walk} → at [] p' st' ≡ see (hole_mid b) (at [] p st) → at t p' st' ≡ given_out skip props s b (at t p st)
      hole_done = leaf_done (hole_mid b) (hole_plain b) hole_is

    -- what another walk does
    element_is : f.kind ≡ K.Element → {c : Bytes} → c ≡ body_of u → given_out skip props s b (at t p st) ≡ act (serialize_jsx (element_at skip props c)) (at t p st)
    element_is k q =
        is_found (found_as K.Element k).0 ∙ out_passed (at t p st) b (serialize_jsx (element_at skip props (body_of u)))
        ∙ ap (λ (x : Bytes). act (serialize_jsx (element_at skip props x)) (at t p st)) (sym q)

    run_is : f.kind ≡ K.Run → given_out skip props s b (at t p st) ≡ act (entries_pass (entries_at skip props u)) (at t p st)
    run_is k =
        let r : RunFound skip props (found_at skip props s) u = found_as K.Run k in
        is_found r.found_is ∙ out_one (at t p st) b (still (string_node r.run)) ∙ sym (act_one_entry (still (string_node r.run)) (at t p st))
        ∙ ap (λ (es : List Entry). act (entries_pass es) (at t p st)) (sym r.among_all)

    expr_is : f.kind ≡ K.Expr → (b ≡ true → tag_of_front u ≡ 0x76 → ⊥) → given_out skip props s b (at t p st) ≡ see (expr_at skip props u) (at t p st)
    expr_is k h = is_found (found_as K.Expr k) ∙ out_expr (opts skip props) (expr_in (read u)) b (at t p st) (λ z. alone (opts skip props) u (h z))

    items_is : f.kind ≡ K.Expr → {c : Bytes} → Spliced u b c →
        given_out skip props s b (at t p st) ≡ see (items_at skip props c) (at t p st)
    unfolding found_out
    items_is k q =
        is_found (found_as K.Expr k) ∙ ap (λ (x : Bool). act (found_out x (found_of (expr_at skip props u))) (at t p st)) q.asked
        ∙ act_spliced_expr (opts skip props) (at t p st) (expr_in (read u))
        ∙ ap (λ (m : Mid). see m (at t p st)) (elements_76 (opts skip props) u q.tag_is q.body_is)

    -- there is room for these
    part_room : (c : Bytes) (w : World) → length c ≤ length s → given_out skip props s b (at t p st) ≡ w → {scratch : Bytes} → Room scratch s (given_out skip props s b (at t p st)) → Room scratch c w
    part_room c w l e {scratch} r = room_is scratch scratch s c r refl l (sym e)

    pub element_room : f.kind ≡ K.Element → {c : Bytes} → c ≡ body_of u → {scratch : Bytes} → Room scratch s (given_out skip props s b (at t p st)) →
        Room scratch c (act (serialize_jsx (element_at skip props c)) (at t p st))
    element_room k {c} q = part_room c (act (serialize_jsx (element_at skip props c)) (at t p st)) (omega (arith, element_short k q)) (element_is k q)

    pub run_room : f.kind ≡ K.Run → {scratch : Bytes} → Room scratch s (given_out skip props s b (at t p st)) → Room scratch u (act (entries_pass (entries_at skip props u)) (at t p st))
    run_room k = part_room u (act (entries_pass (entries_at skip props u)) (at t p st)) found_short (run_is k)

    pub expr_room : f.kind ≡ K.Expr → (b ≡ true → tag_of_front u ≡ 0x76 → ⊥) → {scratch : Bytes} → Room scratch s (given_out skip props s b (at t p st)) →
        Room scratch u (see (expr_at skip props u) (at t p st))
    expr_room k h = part_room u (see (expr_at skip props u) (at t p st)) found_short (expr_is k h)

    pub items_room : f.kind ≡ K.Expr → {c : Bytes} → Spliced u b c → {scratch : Bytes} →
        Room scratch s (given_out skip props s b (at t p st)) → Room scratch c (see (items_at skip props c) (at t p st))
    items_room k {c} q = part_room c (see (items_at skip props c) (at t p st)) (items_short q.body_is) (items_is k q)

    pub element_done : f.kind ≡ K.Element → {c : Bytes} → c ≡ body_of u → {t₂ p₂ : Bytes} {st₂ : Walk} → at t₂ p₂ st₂ ≡ act (serialize_jsx (element_at skip props c)) (at t p st) → at t₂ p₂ st₂ ≡ given_out skip props s b (at t p st)
    element_done k q d = d ∙ sym (element_is k q)

    pub run_done : f.kind ≡ K.Run → {t₂ p₂ : Bytes} {st₂ : Walk} → at t₂ p₂ st₂ ≡ act (entries_pass (entries_at skip props u)) (at t p st) → at t₂ p₂ st₂ ≡ given_out skip props s b (at t p st)
    run_done k d = d ∙ sym (run_is k)

    pub expr_done : f.kind ≡ K.Expr → (b ≡ true → tag_of_front u ≡ 0x76 → ⊥) → {t₂ p₂ : Bytes} {st₂ : Walk} → at t₂ p₂ st₂ ≡ see (expr_at skip props u) (at t p st) → at t₂ p₂ st₂ ≡ given_out skip props s b (at t p st)
    expr_done k h d = d ∙ sym (expr_is k h)

    pub items_done : f.kind ≡ K.Expr → {c : Bytes} → Spliced u b c → {t₂ p₂ : Bytes} {st₂ : Walk} →
        at t₂ p₂ st₂ ≡ see (items_at skip props c) (at t p st) → at t₂ p₂ st₂ ≡ given_out skip props s b (at t p st)
    items_done k q d = d ∙ sym (items_is k q)

    -- a template of the children at the place
    module _ (k : f.kind ≡ K.Template) where
      abbrev parts : Pass Mid
      parts = dynamic_exprs (children_to_string false (kids skip props u))

      merged_is : given_out skip props s b (at t p st) ≡ wrap 0x90 st.page (act parts (numbered (at t p st)))
      merged_is =
          let ms : List Child = merge false false [] (kids skip props u) in
          is_found (found_as K.Template k) ∙ out_passed (at t p st) b (template_pass skip props (kids skip props u))
          ∙ act_long (long_run ms) (gen_template (children_to_string false (short_runs ms))) (at t p st)
          ∙ act_gen_template (children_to_string false (short_runs ms)) (at t p st)
          ∙ ap (wrap 0x90 st.page) (twice_parts (kids skip props u) (numbered (at t p st)))

      pub merged_begin : Low (given_out skip props s b (at t p st)).st → Low (numbered (at [] p st)).st
      merged_begin = template_begin 0x90 (act parts) (act_grows parts) t p st (given_out skip props s b (at t p st)) merged_is

      module _ {p₁ : Bytes} {st₁ : Walk} (n : at [] p₁ st₁ ≡ numbered (at [] p st)) where
        pub merged_room : {scratch : Bytes} → Room scratch s (given_out skip props s b (at t p st)) → Room scratch u (act parts (at t p₁ st₁))
        merged_room {scratch} r =
            room_part scratch scratch s u r refl found_short
            (template_inner 0x90 (act parts) (act_grows parts) t p st (given_out skip props s b (at t p st)) merged_is p₁ st₁ n r.low)

        module _ {t₂ p₂ : Bytes} {st₂ : Walk} (v : at t₂ p₂ st₂ ≡ act parts (at t p₁ st₁)) where
          pub merged_end : Low (given_out skip props s b (at t p st)).st → (st.page + 3 ≤ st₂.page) × Low st₂
          merged_end = template_close 0x90 (act parts) (act_grows parts) t p st (given_out skip props s b (at t p st)) merged_is p₁ st₁ n t₂ p₂ st₂ v

          pub merged_done : {p₃ : Bytes} {st₃ : Walk} → at [] p₃ st₃ ≡ wrap 0x90 st.page (at [] p₂ st₂) → at t₂ p₃ st₃ ≡ given_out skip props s b (at t p st)
          merged_done {p₃} {st₃} = template_done 0x90 (act parts) (act_grows parts) t p st (given_out skip props s b (at t p st)) merged_is p₁ st₁ n t₂ p₂ st₂ v p₃ st₃

    -- an array, with its field around it unless it is spliced
    module _ (es : List Entry) (e : found_at skip props s ≡ array_found es) where
      array_is : given_out skip props s b (at t p st) ≡ wrap_if (not b) 0x76 st.page (act (entries_pass es) (begun_if (not b) (at t p st)))
      array_is = is_found e ∙ out_array (at t p st) b es

      array_begin : Low (given_out skip props s b (at t p st)).st → st.page + 3 < 2 ^ 63
      array_begin = field_if_begin (not b) 0x76 (act (entries_pass es)) (act_grows (entries_pass es)) t p st (given_out skip props s b (at t p st)) array_is

      module _ {st₁ : Walk} (n : at [] [] st₁ ≡ begun_if (not b) (at [] [] st)) where
        array_inner : Low (given_out skip props s b (at t p st)).st → Low (act (entries_pass es) (at t p st₁)).st
        array_inner = field_if_inner (not b) 0x76 (act (entries_pass es)) (act_grows (entries_pass es)) t p st (given_out skip props s b (at t p st)) array_is st₁ n

        module _ {t₂ p₂ : Bytes} {st₂ : Walk} (v : at t₂ p₂ st₂ ≡ act (entries_pass es) (at t p st₁)) where
          array_end : Low (given_out skip props s b (at t p st)).st → (not b ≡ true → st.page + 3 ≤ st₂.page) × Low st₂
          array_end = field_if_close (not b) 0x76 (act (entries_pass es)) (act_grows (entries_pass es)) t p st (given_out skip props s b (at t p st)) array_is st₁ n t₂ p₂ st₂ v

          array_done : {p₃ : Bytes} {st₃ : Walk} → at [] p₃ st₃ ≡ wrap_if (not b) 0x76 st.page (at [] p₂ st₂) → at t₂ p₃ st₃ ≡ given_out skip props s b (at t p st)
          array_done {p₃} {st₃} =
              field_if_done (not b) 0x76 (act (entries_pass es)) (act_grows (entries_pass es)) t p st (given_out skip props s b (at t p st)) array_is st₁ n t₂ p₂ st₂ v p₃ st₃

    module _ {d : ℕ} (k : f.kind ≡ K.Many d) where
      pub many_begin : Low (given_out skip props s b (at t p st)).st → st.page + 3 < 2 ^ 63
      many_begin = array_begin (entries_at skip props u) (found_as (K.Many d) k).0

      module _ {st₁ : Walk} (n : at [] [] st₁ ≡ begun_if (not b) (at [] [] st)) where
        pub many_room : {scratch : Bytes} → Room scratch s (given_out skip props s b (at t p st)) → Room scratch u (act (entries_pass (entries_at skip props u)) (at t p st₁))
        many_room {scratch} r = room_part scratch scratch s u r refl found_short (array_inner (entries_at skip props u) (found_as (K.Many d) k).0 n r.low)

        module _ {t₂ p₂ : Bytes} {st₂ : Walk} (v : at t₂ p₂ st₂ ≡ act (entries_pass (entries_at skip props u)) (at t p st₁)) where
          pub many_end : Low (given_out skip props s b (at t p st)).st → (not b ≡ true → st.page + 3 ≤ st₂.page) × Low st₂
          many_end = array_end (entries_at skip props u) (found_as (K.Many d) k).0 n v

          pub many_done : {p₃ : Bytes} {st₃ : Walk} → at [] p₃ st₃ ≡ wrap_if (not b) 0x76 st.page (at [] p₂ st₂) → at t₂ p₃ st₃ ≡ given_out skip props s b (at t p st)
          many_done = array_done (entries_at skip props u) (found_as (K.Many d) k).0 n v

    module _ (k : f.kind ≡ K.Empty) where
      pub empty_begin : Low (given_out skip props s b (at t p st)).st → st.page + 3 < 2 ^ 63
      empty_begin = array_begin [] (found_as K.Empty k)

      module _ {st₁ : Walk} (n : at [] [] st₁ ≡ begun_if (not b) (at [] [] st)) where
        pub empty_end : Low (given_out skip props s b (at t p st)).st → (not b ≡ true → st.page + 3 ≤ st₁.page) × Low st₁
        empty_end = array_end [] (found_as K.Empty k) n (sym (act_no_entries (at t p st₁)))

        pub empty_done : {p₃ : Bytes} {st₃ : Walk} → at [] p₃ st₃ ≡ wrap_if (not b) 0x76 st.page (at [] p st₁) → at t p₃ st₃ ≡ given_out skip props s b (at t p st)
        empty_done = array_done [] (found_as K.Empty k) n (sym (act_no_entries (at t p st₁)))

-- ---- an array by cases, for what is spliced and what stands as a field

module _ {b : Bool} where
  pub spliced_begins : {st : Walk} → b ≡ true → at [] [] st ≡ begun_if (not b) (at [] [] st)
  spliced_begins {st} e = sym (ap (λ (x : Bool). begun_if (not x) (at [] [] st)) e)

  pub spliced_ends : (st : Walk) → b ≡ true → (g n : ℕ) (p : Bytes) → at [] p st ≡ wrap_if (not b) g n (at [] p st)
  spliced_ends st e g n p = sym (ap (λ (x : Bool). wrap_if (not x) g n (at [] p st)) e)

  pub apart_begins : (st : Walk) {st₁ : Walk} → b ≡ false → st₁ ≡ to_page (st.page + 3) st → at [] [] st₁ ≡ begun_if (not b) (at [] [] st)
  apart_begins st e h = ap (at [] []) h ∙ sym (ap (λ (x : Bool). begun_if (not x) (at [] [] st)) e)

  pub apart_closes : {A L : Type 0} → b ≡ false → (not b ≡ true → A) × L → A × L
  apart_closes e h = (h.0 (ap not e), h.1)

  pub apart_ends : (g n : ℕ) (v : World) {w : World} → b ≡ false → w ≡ wrap g n v → w ≡ wrap_if (not b) g n v
  apart_ends g n v e h = h ∙ sym (ap (λ (x : Bool). wrap_if (not x) g n v) e)
