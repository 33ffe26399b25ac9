-- The parts of a template at bytes, by the tag of the field in front: names, attributes, children, and an element by what the code asks of it.
-- Main statements: `attrs_step`, `kids_60`, `parts_60`, `element_gap`, `element_open`. Assumes nothing.
use mathlib.Core.Path.{◌≡◌, refl, sym, ap, ◌∙◌}
use Prim.Native.Nat.{ℕ}
use mathlib.Core.Bool.{Bool, true, false, ◌&&◌}
use mathlib.Core.List.{List, [], ◌∷◌, ◌++◌}
use lib.Dec.{eqb}
use lib.ListN.{length}
use borrow.Author.Tests.{eq-eqb, ne_eqb}
use Rattle.field.specs.Bytes.{Bytes, pick}
use Rattle.field.specs.Row.{read, Ended}
use Rattle.field.specs.Front.{tag_of_front, body_of, behind_of}
use Rattle.text.specs.Escape.{escape_html}
use Rattle.text.specs.Text.{jsx_text_to_str}
use Rattle.names.specs.Names.{is_void_element}
use Rattle.page.specs.Page as P
use Rattle.page.specs.Page.{Options, Name, identifier, member, namespaced}
use Rattle.page.specs.Tree.{choose, attr_name_in, value_in, attributes_in, children_in, contained_in, Contained, nothing_contained, contained, contained_child}
use Rattle.page.proofs.Tags.{ChildTag, text_tag, container_tag, element_child_tag, fragment_child_tag, spread_child_tag, child_tag}
use Rattle.spec.specs.Pass as S
use Rattle.spec.specs.Pass.{Part, chars, gap, mark, Mid}
use Rattle.spec.specs.declared.Flags.{Flags}
use Rattle.spec.specs.Merge as M
use Rattle.spec.specs.Merge.{Child, is_last}
use Rattle.spec.specs.Attributes as A
use Rattle.spec.specs.Attributes.{attr_parts, attrs_parts, tag_flags}
use Rattle.spec.specs.Children.{children_to_string, open_close, element_to_string_vec, to_call_expr}
use Rattle.spec.specs.Transform.{value, attributes, children, expr, shape_of, element_of, fragment_of}
use Rattle.decisions.specs.Index.{names_of}
use Rattle.decisions.specs.At.{opts, element_name, behind_name, identifier_bytes, children_at, attributes_at, element_at, forbids, serializable_by, serializable, is_none, FirstChild, written, IsAttribute, NoAttribute}
use Rattle.decisions.proofs.Series.{tested, behind_name_at, children_60, children_52, children_30, children_31, children_61, children_other, children_none}
use Rattle.decisions.proofs.Laws.{child_element, child_fragment, serializable_is}
use Rattle.strings.specs.Carve.{Carved, close, carve, contained_parts, flags_at}
use Rattle.strings.proofs.TagLaws.{flags_same}
use Rattle.strings.proofs.MergeLaws.{direct, child_direct}

-- ---- attributes and children, the options as the walks hold them

some_contained : (x : Contained) (cs : P.Children) → is_none (contained_child x cs) ≡ false
unfolding is_none contained_child
some_contained nothing_contained cs = refl
some_contained (contained e) cs = refl

module _ (skip props : Bytes) where
  abbrev pub attrs_at : Bytes → List Part
  attrs_at s = attrs_parts (opts skip props) (attributes (opts skip props) (attributes_in (read s)))

  abbrev pub attr_at : Bytes → List Part
  attr_at a = attr_parts (opts skip props) (A.attribute (attr_name_in (read a)) (value (opts skip props) (value_in (read a))))

  abbrev pub kids : Bytes → List Child
  kids s = children_at skip props (read s)

  abbrev pub held : Contained → Child
  held nothing_contained = M.empty
  held (contained e) = M.container (shape_of e) (expr (opts skip props) e S.none)

  held_is : (x : Contained) (cs : P.Children) → children (opts skip props) (contained_child x cs) ≡ held x ∷ children (opts skip props) cs
  unfolding children contained_child
  held_is nothing_contained cs = refl
  held_is (contained e) cs = refl

  held_direct : (l : Bool) (x : Contained) → child_direct l (held x) ≡ contained_parts (opts skip props) x
  unfolding child_direct contained_parts
  held_direct l nothing_contained = refl
  held_direct l (contained e) = refl

  last_is : (cs : P.Children) → is_last (children (opts skip props) cs) ≡ is_none cs
  unfolding children is_none
  last_is P.no_children = refl
  last_is (P.text_child b cs) = refl
  last_is (P.empty_child cs) = refl
  last_is (P.container_child e cs) = refl
  last_is (P.tag_child t cs) = refl
  last_is (P.spread_child e cs) = refl

  -- b is the body of the field in front of s, and r what lies behind it
  module _ (s : Bytes) (t : ℕ) (e : t ≡ tag_of_front s) {b r : Bytes} (p : b ≡ body_of s) (q : r ≡ behind_of s) where
    pub kids_60 : t ≡ 0x60 → kids s ≡ M.text b ∷ kids r
    unfolding children
    kids_60 k = ap (children (opts skip props)) (children_60 s t e k) ∙ rw (p, q)

    pub kids_52 : t ≡ 0x52 → kids s ≡ held (contained_in (read b)) ∷ kids r
    kids_52 k = ap (children (opts skip props)) (children_52 s t e k) ∙ held_is (contained_in (read (body_of s))) (children_in (read (behind_of s))) ∙ rw (p, q)

    pub kids_30 : t ≡ 0x30 → kids s ≡ M.element (element_at skip props b) ∷ kids r
    unfolding children
    kids_30 k =
        ap (children (opts skip props)) (children_30 s t e k) ∙ ap (λ (x : Child). x ∷ kids (behind_of s)) (child_element skip props (body_of s)) ∙ rw (p, q)

    pub kids_31 : t ≡ 0x31 → kids s ≡ M.fragment (fragment_of (kids b)) ∷ kids r
    unfolding children
    kids_31 k =
        ap (children (opts skip props)) (children_31 s t e k)
        ∙ ap (λ (x : Child). x ∷ kids (behind_of s)) (child_fragment skip props (body_of s)) ∙ rw (p, q)

  module _ (s : Bytes) (t : ℕ) (e : t ≡ tag_of_front s) {r : Bytes} (q : r ≡ behind_of s) where
    -- a spread child, or no child, which F does not look at
    pub kids_other : {C : Type 0} (F : List Child → C) → ((m : Mid) (cs : List Child) → F (M.spread m ∷ cs) ≡ F cs) →
        (t ≡ 256 → ⊥) → (t ≡ 0x60 → ⊥) → (t ≡ 0x52 → ⊥) → (t ≡ 0x30 → ⊥) → (t ≡ 0x31 → ⊥) → F (kids s) ≡ F (kids r)
    unfolding children
    kids_other F f h a b c d =
        tested t 0x61 (λ k. ap (λ x. F (children (opts skip props) x)) (children_61 s t e k) ∙ f _ _ ∙ rw q)
        λ k. ap (λ x. F (children (opts skip props) x)) (children_other s t e h a b c d k) ∙ rw q

  -- the same by the attributes that are written
  attrs_written : (as' : P.Attributes) → attrs_parts (opts skip props) (attributes (opts skip props) (written as')) ≡ attrs_parts (opts skip props) (attributes (opts skip props) as')
  unfolding attributes attrs_parts attr_parts written
  attrs_written P.no_attributes = refl
  attrs_written (P.attribute n v as') = ap (λ ps. attr_parts (opts skip props) (A.attribute n (value (opts skip props) v)) ++ ps) (attrs_written as')
  attrs_written (P.spread_attribute x as') = attrs_written as'

  pub attrs_step : {s a r : Bytes} → IsAttribute s a r → attrs_at s ≡ attr_at a ++ attrs_at r
  unfolding attributes attrs_parts
  attrs_step {s} {a} {r} f =
      sym (attrs_written (attributes_in (read s))) ∙ ap (λ x. attrs_parts (opts skip props) (attributes (opts skip props) x)) f.written_is
      ∙ ap (λ ps. attr_at a ++ ps) (attrs_written (attributes_in (read r)))

  pub attrs_gone : {s r : Bytes} → NoAttribute s r → attrs_at s ≡ []
  unfolding attributes attrs_parts
  attrs_gone {s} f = sym (attrs_written (attributes_in (read s))) ∙ ap (λ x. attrs_parts (opts skip props) (attributes (opts skip props) x)) f.none_written

  pub kids_none : (s : Bytes) → Ended (read s) → kids s ≡ []
  unfolding children
  kids_none s i = ap (children (opts skip props)) (children_none (read s) i)

-- ---- whether a child follows

none_here : (s : Bytes) (t : ℕ) → t ≡ tag_of_front s → ChildTag t → is_none (children_in (read s)) ≡ false
unfolding is_none
none_here s t e text_tag = ap is_none (children_60 s t e refl)
none_here s t e container_tag = ap is_none (children_52 s t e refl) ∙ some_contained (contained_in (read (body_of s))) (children_in (read (behind_of s)))
none_here s t e element_child_tag = ap is_none (children_30 s t e refl)
none_here s t e fragment_child_tag = ap is_none (children_31 s t e refl)
none_here s t e spread_child_tag = ap is_none (children_61 s t e refl)

-- r is the series s from its first child on
pub no_child_left : (s r : Bytes) → FirstChild s r → eqb (length r) 0 ≡ is_none (children_in (read s))
unfolding is_none
no_child_left s r f =
    tested (length r) 0 (λ z. eq-eqb (length r) 0 z ∙ ap is_none (sym (f.none_left z)))
    λ z. ne_eqb (length r) 0 z ∙ sym (ap is_none (sym f.same_children) ∙ none_here r (tag_of_front r) refl (child_tag (tag_of_front r) (f.child_first z)))

-- ---- children, as they are written

module _ (skip props : Bytes) (par : Bool) where
  abbrev pub parts_at : Bytes → List Part
  parts_at s = direct par (kids skip props s)

  module _ (s : Bytes) (t : ℕ) (e : t ≡ tag_of_front s) {b r : Bytes} (p : b ≡ body_of s) (q : r ≡ behind_of s) where
    pub parts_60 : t ≡ 0x60 → {l : Bool} → l ≡ (par && is_none (children_in (read r))) → parts_at s ≡ chars (jsx_text_to_str b true l) ∷ parts_at r
    unfolding direct child_direct
    parts_60 k {l} h =
        ap (direct par) (kids_60 skip props s t e p q k)
        ∙ ap (λ (x : Bool). chars (jsx_text_to_str b true x) ∷ parts_at r) (ap (λ (y : Bool). par && y) (last_is skip props (children_in (read r))) ∙ sym h)

    pub parts_52 : t ≡ 0x52 → parts_at s ≡ contained_parts (opts skip props) (contained_in (read b)) ++ parts_at r
    unfolding direct
    parts_52 k = ap (direct par) (kids_52 skip props s t e p q k) ∙ ap (λ (x : List Part). x ++ parts_at r) (held_direct skip props (par && is_last (kids skip props r)) (contained_in (read b)))

    pub parts_30 : t ≡ 0x30 → parts_at s ≡ (element_at skip props b).to_string_vec ++ parts_at r
    unfolding direct child_direct
    parts_30 k = ap (direct par) (kids_30 skip props s t e p q k)

    pub parts_31 : t ≡ 0x31 → parts_at s ≡ children_to_string false (kids skip props b) ++ parts_at r
    unfolding direct child_direct fragment_of
    parts_31 k = ap (direct par) (kids_31 skip props s t e p q k)

  pub parts_none : (s : Bytes) → Ended (read s) → parts_at s ≡ []
  unfolding direct
  parts_none s i = ap (direct par) (kids_none skip props s i)

  pub parts_other : (s : Bytes) (t : ℕ) → t ≡ tag_of_front s → {r : Bytes} → r ≡ behind_of s →
      (t ≡ 256 → ⊥) → (t ≡ 0x60 → ⊥) → (t ≡ 0x52 → ⊥) → (t ≡ 0x30 → ⊥) → (t ≡ 0x31 → ⊥) → parts_at s ≡ parts_at r
  unfolding direct child_direct
  parts_other s t e q = kids_other skip props s t e q (direct par) (λ m cs. refl)

-- ---- an element, by whether it is serializable, and by its name and what lies behind it

module _ (skip props : Bytes) where
  -- what stands behind the opening tag, unless the element is void
  abbrev pub inner : Bytes → Bytes → List Part
  inner n r = children_to_string true (kids skip props r) ++ (chars (60 ∷ 47 ∷ (n ++ (62 ∷ []))) ∷ [])

  module _ (n r : Bytes) {v : Bool} (e : v ≡ is_void_element n) where
    pub void : v ≡ true → pick (is_void_element n) [] (inner n r) ≡ []
    void h = ap (λ (x : Bool). pick x [] (inner n r)) (sym e ∙ h)

    pub not_void : v ≡ false → pick (is_void_element n) [] (inner n r) ≡ inner n r
    not_void h = ap (λ (x : Bool). pick x [] (inner n r)) (sym e ∙ h)

  vec_by : (n : Name) (as' : P.Attributes) (cs : List Child) →
      element_to_string_vec (opts skip props) n (attributes (opts skip props) as') cs
      ≡ choose (serializable_by (names_of skip) n (forbids as'))
      (λ _. open_close (opts skip props) (identifier_bytes n) (attributes (opts skip props) as') cs)
      (λ _. gap (to_call_expr n (attributes (opts skip props) as') cs) ∷ [])
  unfolding element_to_string_vec serializable_by choose
  vec_by (identifier n) as' cs = rw (serializable_is (opts skip props) (identifier n) as')
  vec_by (member ns) as' cs = refl
  vec_by (namespaced n m) as' cs = refl

  module _ (b : Bytes) {l : Bool} (e : l ≡ serializable skip b) where
    vec : (x : Bool) → l ≡ x →
        (element_at skip props b).to_string_vec
        ≡ choose x
        (λ _. open_close (opts skip props) (identifier_bytes (element_name (read b))) (attributes_at skip props (behind_name (read b))) (children_at skip props (behind_name (read b))))
        (λ _. gap (to_call_expr (element_name (read b)) (attributes_at skip props (behind_name (read b))) (children_at skip props (behind_name (read b)))) ∷ [])
    unfolding element_at element_of serializable
    vec x h =
        vec_by (element_name (read b)) (attributes_in (behind_name (read b))) (children_at skip props (behind_name (read b)))
        ∙ rw (← e, h)

    pub element_gap : l ≡ false → (w : Carved) → carve (element_at skip props b).to_string_vec w ≡ close w
    unfolding carve choose
    element_gap h w = ap (λ (x : List Part). carve x w) (vec false h)

    pub element_open : l ≡ true → {n r : Bytes} → n ≡ identifier_bytes (element_name (read b)) → r ≡ behind_of b →
        (element_at skip props b).to_string_vec
        ≡ mark (flags_at n r) ∷ chars (60 ∷ escape_html n) ∷ (attrs_at skip props r ++ (chars (62 ∷ []) ∷
        pick (is_void_element n) [] (inner n r)))
    unfolding open_close choose
    element_open h {n} {r} p q =
        let made : Flags → List Part = λ f. mark f ∷ chars (60 ∷ escape_html n) ∷ (attrs_at skip props r ++ (chars (62 ∷ []) ∷ pick (is_void_element n) [] (inner n r))) in
        let g : (element_at skip props b).to_string_vec ≡ made (tag_flags n (attributes (opts skip props) (attributes_in (read r)))) = vec true h ∙ rw (p, q, behind_name_at b) in
        g ∙ ap made (flags_same (opts skip props) (opts [] []) n (attributes_in (read r)))
