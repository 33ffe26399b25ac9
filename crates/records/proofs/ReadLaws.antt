-- Elements and series of children as they stand in bytes: what the walk does at each tag, and what it goes by at an element.
-- Main statements: `within_30`, `called_30` and the like; `serialize_call`, `serialize_template`, `inner_call`, `inner_is`,
-- `inner_none`; `found_0`, `only_30`, `only_31`, `only_other`, `found_2`, `found_merged`. Assumes nothing.
use mathlib.Core.Path.{◌≡◌, refl, sym, ap, ◌∙◌, subst}
use Prim.Native.Nat.{ℕ, ◌≤◌}
use native.Mathlib.Omega.{arith}
use mathlib.Core.List.{List, [], ◌∷◌, ◌++◌}
use mathlib.Core.Bool.{Bool, true, false}
use lib.Dec.{T}
use lib.ListN.{length}
use borrow.Author.Tests.{ne_eqb}
use Rattle.field.specs.Bytes.{Bytes, pick}
use Rattle.field.specs.Row.{read, Ended, Next, nothing, no_field, next, next_of}
use Rattle.field.specs.Front.{tag_of_front, body_of, behind_of, behind_by}
use Rattle.field.specs.Fields.{IsFront}
use Rattle.field.proofs.RowLaws.{next_sizes}
use Rattle.field.proofs.FrontLaws.{read_empty}
use Rattle.names.specs.Names.{is_void_element}
use Rattle.page.specs.Check.{is_child}
use Rattle.page.specs.Page as P
use Rattle.page.specs.Page.{Options}
use Rattle.page.specs.Tree.{choose, children_in, expr_in, Contained, nothing_contained, contained, contained_child}
use Rattle.spec.specs.Pass.{Mid, none}
use Rattle.spec.specs.Output.{dynamic_exprs}
use Rattle.spec.specs.Merge as M
use Rattle.spec.specs.Merge.{Child, merge, becomes_template}
use Rattle.spec.specs.Attributes.{is_serializable}
use Rattle.spec.specs.Children.{children_to_string, children_to_expr, entries, entries_pass, entry_pass, found_pass, one_child, to_call_expr, serialize_jsx, spliced}
use Rattle.spec.specs.Transform.{element_of, fragment_of, shape_of, child, children, expr}
use Rattle.decisions.specs.declared.children.Count.{Count}
use Rattle.decisions.specs.declared.children.Count.TheVariants.{Zero, One, More}
use Rattle.decisions.specs.At.{opts, element_name, behind_name, identifier_bytes, attributes_at, children_at, element_at, serializable, is_none, few, becomes, FirstChild}
use Rattle.decisions.proofs.Laws.{child_element, child_fragment, element_serializable, becomes_is}
use Rattle.decisions.proofs.Series.{tested, behind_name_at, children_none, children_60, children_52, children_30, children_31, children_61, children_other}
use Rattle.records.specs.Keep.{Kept, at, keep, write, write_runs, bumped}
use Rattle.records.proofs.KeepLaws.{keep_pure, keep_map, keep_gen}
use Rattle.records.proofs.ChildLaws.{within, called, parts_within, merged_called, few_of, how_many, found_none, found_only, found_silent, found_array, found_template, element_call, element_inner}

-- what lies behind a field is no longer than what it stands in
pub behind_shorter : (s : Bytes) {r : Bytes} → r ≡ behind_of s → length r ≤ length s
unfolding behind_of
behind_shorter s {r} q = subst (λ (x : Bytes). length x ≤ length s) (sym q) (on (next_of s) refl)
  where
    on : (n : Next) → next_of s ≡ n → length (behind_by n) ≤ length s
    on nothing h = omega arith
    on no_field h = omega arith
    on (next t w r) h = omega (arith, next_sizes s t w r h)

pub inner_shorter : (b : Bytes) {i : Bytes} → i ≡ pick (is_void_element (identifier_bytes (element_name (read b)))) [] (behind_of b) → length i ≤ length b
inner_shorter b {i} q = either (is_void_element (identifier_bytes (element_name (read b)))) q
  where
    either : (v : Bool) → i ≡ pick v [] (behind_of b) → length i ≤ length b
    either true p = omega (arith, ap length p)
    either false p = behind_shorter b p

module _ (k p : Bytes) where
  abbrev o : Options
  o = opts k p

  -- ---- a series of children

  module _ (s : Bytes) (t : ℕ) (e : t ≡ tag_of_front s) {r : Bytes} (q : r ≡ behind_of s) where
    pub kids_30 : t ≡ 0x30 → {b : Bytes} → b ≡ body_of s → children_at k p (read s) ≡ M.element (element_at k p b) ∷ children_at k p (read r)
    unfolding child
    kids_30 h {b} w = rw (w, q) (ap (children o) (children_30 s t e h) ∙ ap (λ (c : Child). c ∷ children_at k p (read (behind_of s))) (child_element k p (body_of s)))

    pub kids_31 : t ≡ 0x31 → {b : Bytes} → b ≡ body_of s → children_at k p (read s) ≡ M.fragment (fragment_of (children_at k p (read b))) ∷ children_at k p (read r)
    unfolding child
    kids_31 h {b} w = rw (w, q) (ap (children o) (children_31 s t e h) ∙ ap (λ (c : Child). c ∷ children_at k p (read (behind_of s))) (child_fragment k p (body_of s)))

    -- what goes by elements and fragments alone passes the others over
    module _ {X : Type 0} (F : List Child → X)
        (no_text : (b : Bytes) (cs : List Child) → F (M.text b ∷ cs) ≡ F cs)
        (no_empty : (cs : List Child) → F (M.empty ∷ cs) ≡ F cs)
        (no_container : (z : M.Shape) (m : Mid) (cs : List Child) → F (M.container z m ∷ cs) ≡ F cs)
        (no_spread : (m : Mid) (cs : List Child) → F (M.spread m ∷ cs) ≡ F cs) where
      contained_past : (c : Contained) (cs : P.Children) → F (children o (contained_child c cs)) ≡ F (children o cs)
      unfolding child contained_child
      contained_past nothing_contained cs = no_empty (children o cs)
      contained_past (contained x) cs = no_container _ _ (children o cs)

      kids_past : (t ≡ 256 → ⊥) → (t ≡ 0x30 → ⊥) → (t ≡ 0x31 → ⊥) → F (children_at k p (read s)) ≡ F (children_at k p (read r))
      unfolding child
      kids_past n a b =
          let f : P.Children → X = λ cs. F (children o cs) in
          rw q
          (tested t 0x60 (λ h. ap f (children_60 s t e h) ∙ no_text _ _) λ c.
          tested t 0x52 (λ h. ap f (children_52 s t e h) ∙ contained_past _ _) λ d.
          tested t 0x61 (λ h. ap f (children_61 s t e h) ∙ no_spread _ _) λ g. ap f (children_other s t e n c d a b g))

    pub within_past : (t ≡ 256 → ⊥) → (t ≡ 0x30 → ⊥) → (t ≡ 0x31 → ⊥) → within (children_at k p (read s)) ≡ within (children_at k p (read r))
    unfolding within
    within_past = kids_past within (λ b cs. refl) (λ cs. refl) (λ z m cs. refl) λ m cs. refl

    pub called_past : (t ≡ 256 → ⊥) → (t ≡ 0x30 → ⊥) → (t ≡ 0x31 → ⊥) → called (children_at k p (read s)) ≡ called (children_at k p (read r))
    unfolding called
    called_past = kids_past called (λ b cs. refl) (λ cs. refl) (λ z m cs. refl) λ m cs. refl

    pub within_30 : t ≡ 0x30 → {b : Bytes} → b ≡ body_of s → within (children_at k p (read s)) ≡ (element_at k p b).to_string_vec ++ within (children_at k p (read r))
    unfolding within
    within_30 h w = ap within (kids_30 h w)

    pub within_31 : t ≡ 0x31 → {b : Bytes} → b ≡ body_of s → within (children_at k p (read s)) ≡ children_to_string false (children_at k p (read b)) ++ within (children_at k p (read r))
    unfolding within fragment_of
    within_31 h w = ap within (kids_31 h w)

    pub called_30 : t ≡ 0x30 → {b : Bytes} → b ≡ body_of s → called (children_at k p (read s)) ≡ (M.passed (serialize_jsx (element_at k p b)) ∷ []) ++ called (children_at k p (read r))
    unfolding called
    called_30 h w = ap called (kids_30 h w)

    pub called_31 : t ≡ 0x31 → {b : Bytes} → b ≡ body_of s → called (children_at k p (read s)) ≡ spliced (children_to_expr (children_at k p (read b))) ++ called (children_at k p (read r))
    unfolding called fragment_of
    called_31 h w = ap called (kids_31 h w)

  pub kids_none : (s : Bytes) → Ended (read s) → children_at k p (read s) ≡ []
  unfolding child
  kids_none s h = ap (children o) (children_none (read s) h)

  pub within_none : (s : Bytes) → Ended (read s) → within (children_at k p (read s)) ≡ []
  unfolding within
  within_none s h = ap within (kids_none s h)

  pub called_none : (s : Bytes) → Ended (read s) → called (children_at k p (read s)) ≡ []
  unfolding called
  called_none s h = ap called (kids_none s h)

  -- ---- how many

  few_first : (c : Child) (cs : P.Children) → pick (is_none cs) One More ≡ few_of (c ∷ children o cs)
  unfolding is_none few_of child
  few_first c P.no_children = refl
  few_first c (P.text_child b cs) = refl
  few_first c (P.empty_child cs) = refl
  few_first c (P.container_child e cs) = refl
  few_first c (P.tag_child t cs) = refl
  few_first c (P.spread_child e cs) = refl

  pub few_at : (cs : P.Children) → few cs ≡ few_of (children o cs)
  unfolding few few_of child
  few_at P.no_children = refl
  few_at (P.text_child b cs) = few_first (M.text b) cs
  few_at (P.empty_child cs) = few_first M.empty cs
  few_at (P.container_child e cs) = few_first (M.container (shape_of e) (expr o e none)) cs
  few_at (P.tag_child t cs) = few_first (child o t) cs
  few_at (P.spread_child e cs) = few_first (M.spread (expr o e none)) cs

-- ---- an element

module _ (k p b : Bytes) {r : Bytes} (q : r ≡ behind_of b) where
  kids_behind : children_at k p (behind_name (read b)) ≡ children_at k p (read r)
  kids_behind = ap (children_at k p) (behind_name_at b ∙ ap read (sym q))

  -- no bytes are no children
  none_read : (s : Bytes) → length s ≡ 0 → children_at k p (read s) ≡ []
  none_read s l = kids_none k p s (subst Ended (sym (read_empty s l)) tt)

  none_within : (s : Bytes) → length s ≡ 0 → (w : Kept) → keep (dynamic_exprs (children_to_string false (children_at k p (read s)))) w ≡ w
  unfolding dynamic_exprs within
  none_within s l w = ap (λ (cs : List Child). keep (dynamic_exprs (children_to_string false cs)) w) (none_read s l) ∙ (parts_within false [] w ∙ keep_pure _ w)

  module _ {z : Bool} (d : z ≡ serializable k b) where
    decided : {y : Bool} → z ≡ y → (element_at k p b).serializable ≡ y
    decided h = element_serializable k p b ∙ sym d ∙ h

    decided_by : {y : Bool} → z ≡ y → is_serializable (opts k p) (element_name (read b)) (attributes_at k p (behind_name (read b))) ≡ y
    unfolding element_at element_of
    decided_by h = decided h

    -- one that is no HTML, as an expression and in a template: what its children record in a call
    pub serialize_call : z ≡ false → (w : Kept) → keep (serialize_jsx (element_at k p b)) w ≡ keep (found_pass (children_to_expr (children_at k p (read r)))) w
    unfolding serialize_jsx element_at element_of to_call_expr choose
    serialize_call h w = rw (decided_by h) (keep_map _ (found_pass (children_to_expr (children_at k p (behind_name (read b))))) w ∙ ap (λ (cs : List Child). keep (found_pass (children_to_expr cs)) w) kids_behind)

    pub inner_call : z ≡ false → (w : Kept) → keep (dynamic_exprs (element_at k p b).to_string_vec) w ≡ keep (found_pass (children_to_expr (children_at k p (read r)))) w
    unfolding element_at element_of
    inner_call h w =
        element_call (opts k p) (attributes_at k p (behind_name (read b))) (children_at k p (behind_name (read b))) w (element_name (read b)) (decided_by h)
        ∙ ap (λ (cs : List Child). keep (found_pass (children_to_expr cs)) w) kids_behind

    -- any other is a template as an expression
    pub serialize_template : z ≡ true → (w : Kept) → keep (serialize_jsx (element_at k p b)) w
        ≡ write w.st.next false (element_at k p b).to_string_vec (keep (dynamic_exprs (element_at k p b).to_string_vec) (at w.out (bumped w.st)))
    unfolding serialize_jsx choose
    serialize_template h w = rw (decided h) (keep_gen (element_at k p b).to_string_vec w)

    -- and in a template has what its children record there, unless it is void
    module _ (h : z ≡ true) (w : Kept) where
      inner : keep (dynamic_exprs (element_at k p b).to_string_vec) w ≡ keep (dynamic_exprs (pick (is_void_element (identifier_bytes (element_name (read b)))) [] (children_to_string false (children_at k p (read r))))) w
      unfolding element_at element_of
      inner =
          element_inner (opts k p) (attributes_at k p (behind_name (read b))) (children_at k p (behind_name (read b))) w (element_name (read b)) (decided_by h)
          ∙ ap (λ (cs : List Child). keep (dynamic_exprs (pick (is_void_element (identifier_bytes (element_name (read b)))) [] (children_to_string false cs))) w) kids_behind

      pub inner_is : {i : Bytes} → i ≡ pick (is_void_element (identifier_bytes (element_name (read b)))) [] r →
          keep (dynamic_exprs (element_at k p b).to_string_vec) w ≡ keep (dynamic_exprs (children_to_string false (children_at k p (read i)))) w
      unfolding dynamic_exprs
      inner_is {i} u = inner ∙ on (is_void_element (identifier_bytes (element_name (read b)))) u
        where
          on : (v : Bool) → i ≡ pick v [] r →
              keep (dynamic_exprs (pick v [] (children_to_string false (children_at k p (read r))))) w ≡ keep (dynamic_exprs (children_to_string false (children_at k p (read i)))) w
          on true e = keep_pure _ w ∙ sym (none_within i (ap length e) w)
          on false e = ap (λ (x : Bytes). keep (dynamic_exprs (children_to_string false (children_at k p (read x)))) w) (sym e)

  -- one with nothing behind its name records nothing
  module _ (l : length r ≡ 0) (w : Kept) where
    found_nothing : keep (found_pass (children_to_expr (children_at k p (read r)))) w ≡ w
    unfolding few_of
    found_nothing = found_none (children_at k p (read r)) (ap few_of (none_read r l)) w

    -- in a template, whatever it is
    within_void : (v : Bool) → keep (dynamic_exprs (pick v [] (children_to_string false (children_at k p (read r))))) w ≡ w
    unfolding dynamic_exprs
    within_void true = keep_pure _ w
    within_void false = none_within r l w

    inner_either : (z : Bool) → z ≡ serializable k b → keep (dynamic_exprs (element_at k p b).to_string_vec) w ≡ w
    inner_either true d = inner d refl w ∙ within_void (is_void_element (identifier_bytes (element_name (read b))))
    inner_either false d = inner_call d refl w ∙ found_nothing

    pub inner_none : keep (dynamic_exprs (element_at k p b).to_string_vec) w ≡ w
    inner_none = inner_either (serializable k b) refl

-- ---- children of a call

module _ (k p s : Bytes) {n : Count} (d : n ≡ few (children_in (read s))) (w : Kept) where
  abbrev cs : List Child
  cs = children_at k p (read s)

  count_is : few_of cs ≡ n
  count_is = sym (few_at k p (children_in (read s))) ∙ sym d

  pub found_0 : n ≡ Zero → keep (found_pass (children_to_expr (children_at k p (read s)))) w ≡ w
  found_0 h = found_none cs (count_is ∙ h) w

  -- the only child stands at a
  module _ (h : n ≡ One) {a : Bytes} (f : FirstChild s a) where
    only : (c : Child) (ds : List Child) → children_at k p (read a) ≡ c ∷ ds → keep (found_pass (children_to_expr (children_at k p (read s)))) w ≡ keep (found_pass (one_child c)) w
    only c ds q =
        let j : cs ≡ c ∷ ds = ap (children (opts k p)) (sym f.same_children) ∙ q in
        ap (λ (xs : List Child). keep (found_pass (children_to_expr xs)) w) j ∙ ap (λ (x : M.Found). keep (found_pass x) w) (found_only c ds (ap few_of (sym j) ∙ count_is ∙ h))

    module _ {t : ℕ} {b r : Bytes} (i : IsFront a t b r) where
      pub only_30 : t ≡ 0x30 → keep (found_pass (children_to_expr (children_at k p (read s)))) w ≡ keep (serialize_jsx (element_at k p b)) w
      unfolding one_child found_pass entry_pass
      only_30 g = only _ _ (kids_30 k p a t i.tag_is i.behind_is g i.body_is)

      pub only_31 : t ≡ 0x31 → keep (found_pass (children_to_expr (children_at k p (read s)))) w ≡ keep (found_pass (children_to_expr (children_at k p (read b)))) w
      unfolding one_child fragment_of
      only_31 g = only _ _ (kids_31 k p a t i.tag_is i.behind_is g i.body_is)

    silent : (c : Child) (ds : List Child) → called (c ∷ []) ≡ [] → children_at k p (read a) ≡ c ∷ ds → keep (found_pass (children_to_expr (children_at k p (read s)))) w ≡ w
    silent c ds z q = only c ds q ∙ found_silent c z w

    held : (x : Contained) (ds : P.Children) → children_in (read a) ≡ contained_child x ds → keep (found_pass (children_to_expr (children_at k p (read s)))) w ≡ w
    unfolding child called contained_child
    held nothing_contained ds q = silent M.empty (children (opts k p) ds) refl (ap (children (opts k p)) q)
    held (contained x) ds q = silent (M.container (shape_of x) (expr (opts k p) x none)) (children (opts k p) ds) refl (ap (children (opts k p)) q)

    some : length a ≡ 0 → ⊥
    unfolding few
    some z = omega (arith, ap how_many (sym h ∙ d ∙ ap few (f.none_left z)))

    -- neither an element nor a fragment
    pub only_other : (t : ℕ) → t ≡ tag_of_front a → (t ≡ 0x30 → ⊥) → (t ≡ 0x31 → ⊥) → keep (found_pass (children_to_expr (children_at k p (read s)))) w ≡ w
    unfolding child called
    only_other t e y z =
        let o = opts k p in
        tested t 0x60 (λ g. silent (M.text (body_of a)) _ refl (ap (children o) (children_60 a t e g))) λ i.
        tested t 0x52 (λ g. held _ _ (children_52 a t e g)) λ j.
        tested t 0x61 (λ g. silent (M.spread (expr o (expr_in (read (body_of a))) none)) _ refl (ap (children o) (children_61 a t e g))) λ m.
        let u : is_child t ≡ false = rw (ne_eqb t 0x60 i, ne_eqb t 0x52 j, ne_eqb t 0x30 y, ne_eqb t 0x31 z, ne_eqb t 0x61 m) in
        absurd (subst T (ap is_child (sym e) ∙ u) (f.child_first some))

  module _ (a : n ≡ More) {z : Bool} (u : z ≡ becomes k (children_in (read s))) where
    count_2 : few_of cs ≡ More
    count_2 = count_is ∙ a

    becomes_z : becomes_template cs ≡ z
    becomes_z = becomes_is k p (children_in (read s)) ∙ sym u

    pub found_2 : z ≡ false → keep (found_pass (children_to_expr (children_at k p (read s)))) w ≡ keep (entries_pass (entries (merge false false [] (children_at k p (read s))))) w
    found_2 h = found_array cs w count_2 (becomes_z ∙ h) ∙ sym (merged_called false false [] cs w)

    pub found_merged : z ≡ true → keep (found_pass (children_to_expr (children_at k p (read s)))) w
        ≡ write_runs w.st.next (children_at k p (read s)) (keep (dynamic_exprs (children_to_string false (children_at k p (read s)))) (at w.out (bumped w.st)))
    found_merged h = found_template cs w count_2 (becomes_z ∙ h)
