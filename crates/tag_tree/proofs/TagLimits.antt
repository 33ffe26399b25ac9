-- What the grammar reads of a UTF-8 text is within the limits of a page's tag, where its numbers and its depth are. Main statement: `tag_ok`.
-- Assumes nothing.
use Prim.Native.Nat.{ℕ, suc}
use mathlib.Core.Path.{sym, subst}
use mathlib.Core.Bool.{Bool, true}
use mathlib.Core.List.{[], ◌∷◌}
use native.Mathlib.Omega.{arith}
use lib.Dec.{T, leb}
use Rattle.field.specs.Bytes.{Bytes}
use Rattle.field.specs.Row.{Row, end, field}
use Rattle.page.specs.Page as P
use Rattle.page.specs.Encode.{name_row, attr_name_row, tag_row, attributes_row, children_row, expr_row}
use Rattle.page.specs.Limits.{Deep, Utf8Ok, TagOk, AttributesOk, ChildrenOk, ExprOk, ElementNameOk}
use Rattle.page.proofs.Booleans.{and_both, both_and}
use Rattle.grammar.specs.Known as K
use Rattle.grammar.specs.Known.{Known}
use Rattle.grammar.specs.Syntax as S
use Rattle.grammar.specs.Syntax.{Name, every_tag, every_attributes, every_attribute, every_children, every_child, every_expr, tag_name_fits, attribute_name_fits, member_fits}
use Rattle.grammar.specs.Grammar.{Spaces, Closing, closing_name, closing_fragment, IsTag, is_alone, is_around, is_fragment, IsAttributes, are_no_attributes, are_attributes, IsAttribute, is_no_value, is_string_value, is_container_value, is_tag_value, is_spread_attribute, IsChildren, are_no_children, are_children, IsChild, is_text_child, is_tag_child, is_empty_child, is_container_child, is_spread_child, IsExpr, is_tag_expr, is_known_expr}
use Rattle.grammar.proofs.Letters.{Whole, skip_ascii, spaces_utf8, text_utf8, string_utf8, quote_small, source_utf8, KnownUtf8, known_utf8, name_utf8, Idents, name_idents}
use Rattle.tag_tree.specs.PageTag.{page_name, page_attr_name, page_known, page_tag_by, page_tag, page_attributes, page_attribute, page_children, page_child, page_expr}
use Rattle.tag_tree.specs.TagAnswer.{known_in_range, shallow}
use Rattle.tag_tree.proofs.NamesOk.{field_shallow, attr_name_ok, element_name_ok}

abbrev Any : Name → Name → Bool
Any n m = true

utf8_ok : (b : Bytes) → Whole b → Utf8Ok b
utf8_ok b e = subst T (sym e) tt

closing_utf8 : {s r : Bytes} {m : Name} → Closing s m r → Whole s → Whole r
closing_utf8 (closing_name {s} {s₁} {r = r} p q n f e) u =
    let a = spaces_utf8 p (skip_ascii 60 s (omega arith) u) in
    let b = name_utf8 n (spaces_utf8 q (skip_ascii 47 s₁ (omega arith) a)) in
    skip_ascii 62 r (omega arith) (spaces_utf8 e b)
closing_utf8 (closing_fragment {s} {s₁} {r} p q) u =
    let a = spaces_utf8 p (skip_ascii 60 s (omega arith) u) in
    skip_ascii 62 r (omega arith) (spaces_utf8 q (skip_ascii 47 s₁ (omega arith) a))

points_utf8 : {s r : Bytes} → Spaces s (46 ∷ 46 ∷ 46 ∷ r) → Whole s → Whole r
points_utf8 {s} {r} p u = skip_ascii 46 r (omega arith) (skip_ascii 46 (46 ∷ r) (omega arith) (skip_ascii 46 (46 ∷ 46 ∷ r) (omega arith) (spaces_utf8 p u)))

-- ---- what is known in braces
known_ok : (k : Known) (d : ℕ) → T (shallow d (expr_row (page_known k) end)) → T (known_in_range k) → KnownUtf8 k → ExprOk (page_known k) d
unfolding page_known known_in_range KnownUtf8 tag_row TagOk
known_ok (K.whole n) d h r u = ((field_shallow d _ _ end end h).0, r)
known_ok (K.minus_whole n) d h r u = ((field_shallow d _ _ end end h).0, r)
known_ok (K.decimal n p) d h r u = ((field_shallow d _ _ end end h).0, r)
known_ok (K.minus_decimal n p) d h r u = ((field_shallow d _ _ end end h).0, r)
known_ok (K.quoted w) d h r u = ((field_shallow d _ _ end end h).0, utf8_ok w u)
known_ok (K.boolean b) d h r u = (field_shallow d _ _ end end h).0
known_ok K.null d h r u = (field_shallow d _ _ end end h).0
known_ok (K.other w) d h r u =
    let p = field_shallow d 0x79 [] (field 0x20 w end end) end h in
    let q = field_shallow (suc d) 0x20 w end end p.1 in
    (p.0, (q.0, utf8_ok w u, tt))

-- ---- rows that follow a tag
behind_tag : (t : P.Tag) (d : ℕ) (x : Row) → T (shallow d (tag_row t x)) → T (shallow d (tag_row t end)) × T (shallow d x)
unfolding tag_row shallow
behind_tag (P.element n as' cs) d x h =
    let p = field_shallow d 0x30 [] (name_row n (attributes_row as' (children_row cs))) x h in
    (both_and (leb d 48) _ p.0 (both_and (shallow (suc d) (name_row n (attributes_row as' (children_row cs)))) true p.1 tt), p.2)
behind_tag (P.fragment cs) d x h =
    let p = field_shallow d 0x31 [] (children_row cs) x h in
    (both_and (leb d 48) _ p.0 (both_and (shallow (suc d) (children_row cs)) true p.1 tt), p.2)

-- an element with its name
element_ok : (p : S.Part) (n : Name) (as' : P.Attributes) (cs : P.Children) (d : ℕ) → Idents (p ∷ n) → T (tag_name_fits (p ∷ n)) → T (shallow d (tag_row (P.element (page_name (p ∷ n)) as' cs) end)) → Deep d × ElementNameOk (suc d) (page_name (p ∷ n)) × T (shallow (suc d) (attributes_row as' (children_row cs)))
unfolding tag_row
element_ok p n as' cs d i f h =
    let q = field_shallow d 0x30 [] (name_row (page_name (p ∷ n)) (attributes_row as' (children_row cs))) end h in
    let m = element_name_ok p n (suc d) (attributes_row as' (children_row cs)) i f q.1 in
    (q.0, m.0, m.1)

-- a name that fits is not empty
named_ok : (n : Name) (as' : P.Attributes) (cs : P.Children) (d : ℕ) → Idents n → T (tag_name_fits n) → T (shallow d (tag_row (page_tag_by n as' cs) end)) → T (shallow (suc d) (attributes_row as' (children_row cs))) × (AttributesOk as' (suc d) → ChildrenOk cs (suc d) → TagOk (page_tag_by n as' cs) d)
unfolding page_tag_by tag_name_fits attribute_name_fits member_fits TagOk
named_ok [] as' cs d i f h = absurd f
named_ok (p ∷ n) as' cs d i f h = let q = element_ok p n as' cs d i f h in (q.2, λ a c. (q.0, q.1, a, c))

mutual
  unfolding page_tag every_tag TagOk tag_row page_tag_by

  pub tag_ok : {s r : Bytes} {t : S.Tag} → IsTag s t r → (d : ℕ) → T (shallow d (tag_row (page_tag t) end)) → T (every_tag t Any known_in_range) → Whole s → TagOk (page_tag t) d × Whole r
  tag_ok (is_alone {s} {s₄ = s₄} {r} {n} {ps} p nm f q a e) d h k u =
      let m = named_ok n (page_attributes ps) P.no_children d (name_idents nm) f h in
      let b = and_both (every_attributes ps Any known_in_range) true k in
      let v = spaces_utf8 q (name_utf8 nm (spaces_utf8 p (skip_ascii 60 s (omega arith) u))) in
      let w = attributes_ok a (suc d) end m.0 b.0 v in
      (m.1 w.0 tt, skip_ascii 62 r (omega arith) (spaces_utf8 e (skip_ascii 47 s₄ (omega arith) w.2)))
  tag_ok (is_around {s} {s₄ = s₄} {n = n} {ps = ps} {ks} p nm f q a c e) d h k u =
      let m = named_ok n (page_attributes ps) (page_children ks) d (name_idents nm) f h in
      let b = and_both (every_attributes ps Any known_in_range) (every_children ks Any known_in_range) k in
      let v = spaces_utf8 q (name_utf8 nm (spaces_utf8 p (skip_ascii 60 s (omega arith) u))) in
      let w = attributes_ok a (suc d) (children_row (page_children ks)) m.0 b.0 v in
      let x = children_ok c (suc d) w.1 b.1 (skip_ascii 62 s₄ (omega arith) w.2) in
      (m.1 w.0 x.0, closing_utf8 e x.1)
  tag_ok (is_fragment {s} {s₁} {ks = ks} p c e) d h k u =
      let m = field_shallow d 0x31 [] (children_row (page_children ks)) end h in
      let x = children_ok c (suc d) m.1 k (skip_ascii 62 s₁ (omega arith) (spaces_utf8 p (skip_ascii 60 s (omega arith) u))) in
      ((m.0, x.0), closing_utf8 e x.1)

  attributes_ok : {s r : Bytes} {ps : S.Attributes} → IsAttributes s ps r → (d : ℕ) (x : Row) → T (shallow d (attributes_row (page_attributes ps) x)) → T (every_attributes ps Any known_in_range) → Whole s → AttributesOk (page_attributes ps) d × T (shallow d x) × Whole r
  attributes_ok are_no_attributes d x h k u = (tt, h, u)
  attributes_ok (are_attributes {a = a} {ps} p q) d x h k u =
      let b = and_both (every_attribute a Any known_in_range) (every_attributes ps Any known_in_range) k in
      let m = attribute_ok p d (page_attributes ps) x h b.0 u in
      let n = attributes_ok q d x m.1 b.1 m.2 in
      (m.0 n.0, n.1, n.2)

  -- in front of others
  attribute_ok : {s r : Bytes} {a : S.Attribute} → IsAttribute s a r → (d : ℕ) (as' : P.Attributes) (x : Row) → T (shallow d (attributes_row (page_attribute a as') x)) → T (every_attribute a Any known_in_range) → Whole s → (AttributesOk as' d → AttributesOk (page_attribute a as') d) × T (shallow d (attributes_row as' x)) × Whole r
  attribute_ok (is_no_value {a = n} nm f e p) d as' x h k u =
      let m = field_shallow d 0x50 [] (attr_name_row (page_attr_name n) end) (attributes_row as' x) h in
      let b = attr_name_ok n (suc d) end (name_idents nm) f m.1 in
      (λ o. (m.0, b.0, tt, o), m.2, spaces_utf8 p (name_utf8 nm u))
  attribute_ok (is_string_value {s₁ = s₁} {s₂} {w} {s₃} {q = q} {a = n} nm f p t k' e) d as' x h k u =
      let m = field_shallow d 0x50 [] (attr_name_row (page_attr_name n) (field 0x51 w end end)) (attributes_row as' x) h in
      let b = attr_name_ok n (suc d) (field 0x51 w end end) (name_idents nm) f m.1 in
      let c = field_shallow (suc d) 0x51 w end end b.1 in
      let v = spaces_utf8 p (skip_ascii 61 s₁ (omega arith) (name_utf8 nm u)) in
      let g = string_utf8 q t k' (skip_ascii q s₂ (quote_small q t) v) in
      (λ o. (m.0, b.0, (c.0, utf8_ok w g.0), o), m.2, spaces_utf8 e (skip_ascii q s₃ (quote_small q t) g.1))
  attribute_ok (is_container_value {s₁ = s₁} {s₂ = s₂} {a = n} {b = v} nm f p i e) d as' x h k u =
      let m = field_shallow d 0x50 [] (attr_name_row (page_attr_name n) (field 0x52 [] (expr_row (page_expr v) end) end)) (attributes_row as' x) h in
      let b = attr_name_ok n (suc d) (field 0x52 [] (expr_row (page_expr v) end) end) (name_idents nm) f m.1 in
      let c = field_shallow (suc d) 0x52 [] (expr_row (page_expr v) end) end b.1 in
      let g = expr_ok i (suc (suc d)) c.1 k (skip_ascii 123 s₂ (omega arith) (spaces_utf8 p (skip_ascii 61 s₁ (omega arith) (name_utf8 nm u)))) in
      (λ o. (m.0, b.0, (c.0, g.0), o), m.2, spaces_utf8 e g.1)
  attribute_ok (is_tag_value {s₁ = s₁} {a = n} {t = t} nm f p i e) d as' x h k u =
      let m = field_shallow d 0x50 [] (attr_name_row (page_attr_name n) (tag_row (page_tag t) end)) (attributes_row as' x) h in
      let b = attr_name_ok n (suc d) (tag_row (page_tag t) end) (name_idents nm) f m.1 in
      let g = tag_ok i (suc d) b.1 k (spaces_utf8 p (skip_ascii 61 s₁ (omega arith) (name_utf8 nm u))) in
      (λ o. (m.0, b.0, g.0, o), m.2, spaces_utf8 e g.1)
  attribute_ok (is_spread_attribute {s} {b = v} p i e) d as' x h k u =
      let m = field_shallow d 0x53 [] (expr_row (page_expr v) end) (attributes_row as' x) h in
      let g = expr_ok i (suc d) m.1 k (points_utf8 p (skip_ascii 123 s (omega arith) u)) in
      (λ o. (m.0, g.0, o), m.2, spaces_utf8 e g.1)

  children_ok : {s r : Bytes} {ks : S.Children} → IsChildren s ks r → (d : ℕ) → T (shallow d (children_row (page_children ks))) → T (every_children ks Any known_in_range) → Whole s → ChildrenOk (page_children ks) d × Whole r
  children_ok are_no_children d h k u = (tt, u)
  children_ok (are_children {k = c} {ks} p q) d h k u =
      let b = and_both (every_child c Any known_in_range) (every_children ks Any known_in_range) k in
      let m = child_ok p d (page_children ks) h b.0 u in
      let n = children_ok q d m.1 b.1 m.2 in
      (m.0 n.0, n.1)

  -- in front of others
  child_ok : {s r : Bytes} {c : S.Child} → IsChild s c r → (d : ℕ) (cs : P.Children) → T (shallow d (children_row (page_child c cs))) → T (every_child c Any known_in_range) → Whole s → (ChildrenOk cs d → ChildrenOk (page_child c cs) d) × T (shallow d (children_row cs)) × Whole r
  child_ok (is_text_child {w = w} {c = c} q) d cs h k u =
      let m = field_shallow d 0x60 (c ∷ w) end (children_row cs) h in
      let g = text_utf8 q u in
      (λ o. (m.0, utf8_ok (c ∷ w) g.0, o), m.2, g.1)
  child_ok (is_tag_child {t = t} i) d cs h k u =
      let m = behind_tag (page_tag t) d (children_row cs) h in
      let g = tag_ok i d m.0 k u in
      (λ o. (g.0, o), m.1, g.1)
  child_ok (is_empty_child {s} {r} p) d cs h k u =
      let m = field_shallow d 0x52 [] end (children_row cs) h in
      (λ o. (m.0, o), m.2, skip_ascii 125 r (omega arith) (spaces_utf8 p (skip_ascii 123 s (omega arith) u)))
  child_ok (is_container_child {s} {b = v} i) d cs h k u =
      let m = field_shallow d 0x52 [] (expr_row (page_expr v) end) (children_row cs) h in
      let g = expr_ok i (suc d) m.1 k (skip_ascii 123 s (omega arith) u) in
      (λ o. (m.0, g.0, o), m.2, g.1)
  child_ok (is_spread_child {s} {b = v} p i) d cs h k u =
      let m = field_shallow d 0x61 [] (expr_row (page_expr v) end) (children_row cs) h in
      let g = expr_ok i (suc d) m.1 k (points_utf8 p (skip_ascii 123 s (omega arith) u)) in
      (λ o. (m.0, g.0, o), m.2, g.1)

  expr_ok : {s r : Bytes} {b : S.Expr} → IsExpr s b r → (d : ℕ) → T (shallow d (expr_row (page_expr b) end)) → T (every_expr b Any known_in_range) → Whole s → ExprOk (page_expr b) d × Whole r
  expr_ok (is_tag_expr {r = r} p q e) d h k u =
      let g = tag_ok q d h k (spaces_utf8 p u) in
      (g.0, skip_ascii 125 r (omega arith) (spaces_utf8 e g.1))
  expr_ok (is_known_expr {w = w} {r = r} {c = c} {k = j} p t q i) d h k u =
      let g = source_utf8 q (spaces_utf8 p u) in
      (known_ok j d h k (known_utf8 (c ∷ w) j g.0 i), g.1)
