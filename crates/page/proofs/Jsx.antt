-- The fields that the checks take in each place are exactly those of JSX's kinds, with 01's differences.
-- Main statements: `identifier_exact`, `element_name_exact`, `attribute_name_exact`, `attributes_exact`, `value_exact`, `children_exact`.
-- Assumes nothing.
use mathlib.Core.Path.{◌≡◌, refl, sym, subst}
use mathlib.Core.Bool.{Bool, true, false, ◌&&◌, ◌||◌, not}
use mathlib.Core.Logic.{◌↔◌, ◌⊎◌, inl, inr}
use Prim.Native.Nat.{ℕ, zero, suc, ◌≤◌}
use native.Mathlib.Omega.{arith}
use mathlib.Core.List.{List, [], ◌∷◌, ◌++◌, append-nil, append_assoc}
use lib.Dec.{T, leb, eqb, leb→le, le→leb, eqb→eq, T_not, not_T}
use lib.ListN.{length, length-append}
use Rattle.field.specs.Bytes.{Bytes}
use Rattle.field.specs.Row.{Row, end, loose, field}
use Rattle.page.specs.Tree.{choose}
use Rattle.refusal.specs.Refusal.{Verdict, Fine, after}
use Rattle.page.specs.Check.{check_header, check_end, check_text, name_start, name_part, name_parts, no_hyphen, is_name, check_name, check_members, at_least, check_ident, check_name_by, is_name_tag, is_tag, is_child, is_attribute, check_child_by, check_element, check_attributes, check_attribute, check_value, check_children, check_container, check_expr}
use Rattle.page.specs.Limits.{Deep}
use Rattle.page.specs.Jsx as J
use Rattle.page.specs.Jsx.{JsxIdentifier, start, and_letter, and_digit, and_hyphen, JsxNamespacedName, namespaced, JsxMemberExpression, member, and_member, Short, NoHyphen, Each, Idents, none, one_more, IdentsOf, ElementName, element_name_tag, ElementNameBody, AttributeName, as_element_name, Attribute, attribute_body, AttributeValue, ValueTaken, value_body, Child, child_body, OneOf}
use Rattle.refusal.specs.declared.Refusal.TheVariants as R
use Rattle.refusal.proofs.Verdicts.{refused, after_fine, unless_fine, fine_after, fine_unless}
use Rattle.page.proofs.Headers.{header_fine, fine_header}
use Rattle.page.proofs.Booleans.{and_both, both_and, or_either, or_left, or_right}
use Rattle.page.proofs.Complete.{children_behind}
use Rattle.page.proofs.Tags as K
use Rattle.page.proofs.Tags.{ChildTag, NameTag, AttrNameTag, ValueTag, AttributeTag}

-- ---- names

parts_more : (n : Bytes) (c : ℕ) → T (name_parts n) → T (name_part c) → T (name_parts (n ++ c ∷ []))
unfolding name_parts
parts_more [] c h k = both_and (name_part c) true k tt
parts_more (x ∷ n) c h k = let p = and_both (name_part x) (name_parts n) h in both_and (name_part x) (name_parts (n ++ c ∷ [])) p.0 (parts_more n c p.1 k)

-- what an identifier of JSX is byte by byte
abbrev Shape : Bytes → Type 0
Shape [] = ⊥
Shape (c ∷ cs) = T (name_start c) × T (name_parts cs)

shape_more : (n : Bytes) (c : ℕ) → Shape n → T (name_part c) → Shape (n ++ c ∷ [])
shape_more [] c h k = absurd h
shape_more (x ∷ n) c h k = (h.0, parts_more n c h.1 k)

shape_of : (b : Bytes) → JsxIdentifier b → Shape b
unfolding name_parts
shape_of b (start c h) = (h, tt)
shape_of b (and_letter n c i h) = shape_more n c (shape_of n i) (or_left (name_start c || (leb 48 c && leb c 57)) (eqb c 45) (or_left (name_start c) (leb 48 c && leb c 57) h))
shape_of b (and_digit n c i h) = shape_more n c (shape_of n i) (or_left (name_start c || (leb 48 c && leb c 57)) (eqb c 45) (or_right (name_start c) (leb 48 c && leb c 57) h))
shape_of b (and_hyphen n i) = shape_more n 45 (shape_of n i) tt

-- an identifier with more parts behind it
more_parts : (cs n : Bytes) → JsxIdentifier n → T (name_parts cs) → JsxIdentifier (n ++ cs)
unfolding name_parts
more_parts [] n i h = subst JsxIdentifier (sym (append-nil n)) i
more_parts (c ∷ cs) n i h =
    let p = and_both (name_part c) (name_parts cs) h in
    let one : JsxIdentifier (n ++ c ∷ []) =
    or_either (name_start c || (leb 48 c && leb c 57)) (eqb c 45) p.0
    (λ k. or_either (name_start c) (leb 48 c && leb c 57) k (and_letter n c i) (and_digit n c i))
    (λ k. subst (λ (x : ℕ). JsxIdentifier (n ++ x ∷ [])) (sym (eqb→eq c 45 k)) (and_hyphen n i)) in
    subst JsxIdentifier (append_assoc n (c ∷ []) cs) (more_parts cs (n ++ c ∷ []) one p.1)

-- a 40 is an identifier of JSX of at most 128 bytes
pub identifier_exact : (b : Bytes) → T (is_name b) ↔ (JsxIdentifier b × (length b ≤ 128))
unfolding is_name
identifier_exact [] = (λ h. absurd h, λ p. absurd (shape_of [] p.0))
identifier_exact (c ∷ cs) = (
  λ h.
      let p = and_both (leb (length (c ∷ cs)) 128) (name_start c && name_parts cs) h in
      let q = and_both (name_start c) (name_parts cs) p.1 in
      (more_parts cs (c ∷ []) (start c q.0) q.1, leb→le (length (c ∷ cs)) 128 p.0),
  λ p.
      let s : Shape (c ∷ cs) = shape_of (c ∷ cs) p.0 in
      both_and (leb (length (c ∷ cs)) 128) (name_start c && name_parts cs) (le→leb (length (c ∷ cs)) 128 p.1) (both_and (name_start c) (name_parts cs) s.0 s.1),
)

-- ---- a check of a field against the kinds

-- header, body, then the rest: what the test takes is a kind, and each kind is taken
module _ (K : Type 0) (tag : K → ℕ) (Body : K → Type 0) (test : ℕ → Bool) (given : ℕ → Verdict) (rest : Verdict) (d : ℕ)
    (to : (t : ℕ) → T (test t) → given t ≡ Fine → (k : K) × (tag k ≡ t) × Body k)
    (from : (k : K) → Body k → T (test (tag k)) × (given (tag k) ≡ Fine)) where
  exact : (t : ℕ) → (after (check_header (test t) d) λ _. after (given t) λ _. rest) ≡ Fine ↔ OneOf K tag Body t d rest
  exact t = (
    λ e.
        let a = after_fine _ _ e in
        let h = header_fine (test t) d a.0 in
        let b = after_fine _ _ a.1 in
        let k = to t h.0 b.0 in
        record { kind = k.0; tag_is = k.1; deep = h.1; body = k.2; rest_fine = b.1 },
    λ o.
        let p = from o.kind o.body in
        subst (λ (u : ℕ). (after (check_header (test u) d) λ _. after (given u) λ _. rest) ≡ Fine) o.tag_is
        (fine_after _ _ (fine_header (test (tag o.kind)) d p.0 o.deep) (fine_after _ _ p.1 o.rest_fine)),
  )

-- ---- names

-- a field of a row of 40s: its tag, its depth, its name, and what follows
ident_parts : (t d : ℕ) (f : Bytes) (w : Verdict) → (after (check_header (eqb t 0x40) d) λ _. after (check_name f) λ _. w) ≡ Fine → T (eqb t 0x40) × Deep d × T (is_name f) × (w ≡ Fine)
unfolding check_name
ident_parts t d f w e =
    let a = after_fine _ _ e in
    let h = header_fine (eqb t 0x40) d a.0 in
    let b = after_fine _ _ a.1 in
    (h.0, h.1, unless_fine (is_name f) R.BadName b.0, b.1)

parts_ident : (d : ℕ) (f : Bytes) (w : Verdict) → Deep d → T (is_name f) → w ≡ Fine → (after (check_header (eqb 0x40 0x40) d) λ _. after (check_name f) λ _. w) ≡ Fine
unfolding check_name
parts_ident d f w g n e = fine_after _ _ (fine_header true d tt g) (fine_after _ _ (fine_unless (is_name f) R.BadName n) e)

one_ident : (t : ℕ) (n : Bytes) (ns : List Bytes) (i r : Row) → T (eqb t 0x40) → Idents ns r → Idents (n ∷ ns) (field t n i r)
one_ident t n ns i r h is = subst (λ (u : ℕ). Idents (n ∷ ns) (field u n i r)) (sym (eqb→eq t 0x40 h)) (one_more n ns i r is)

-- ---- namespaced names

namespaced_to : (d : ℕ) (i : Row) → (check_ident d i λ r. check_ident d r check_end) ≡ Fine → IdentsOf JsxNamespacedName d i
unfolding check_ident check_end Each
namespaced_to d end e = refused R.Misplaced e
namespaced_to d (loose b) e = refused R.Truncated e
namespaced_to d (field t n i end) e = refused R.Misplaced (ident_parts t d n _ e).3
namespaced_to d (field t n i (loose b)) e = refused R.Truncated (ident_parts t d n _ e).3
namespaced_to d (field t n i (field u m j (loose b))) e = refused R.Truncated (ident_parts u d m _ (ident_parts t d n _ e).3).3
namespaced_to d (field t n i (field u m j (field v f k r))) e = refused R.Misplaced (ident_parts u d m _ (ident_parts t d n _ e).3).3
namespaced_to d (field t n i (field u m j end)) e =
    let p = ident_parts t d n _ e in
    let q = ident_parts u d m _ p.3 in
    let a = (identifier_exact n).0 p.2 in
    let b = (identifier_exact m).0 q.2 in
    record { names = n ∷ m ∷ []; fields = one_ident t n (m ∷ []) i _ p.0 (one_ident u m [] j end q.0 none); deep = p.1; short = (a.1, (b.1, tt)); production = namespaced n m a.0 b.0 }

namespaced_from : (d : ℕ) (ns : List Bytes) (i : Row) → Idents ns i → Deep d → Each Short ns → JsxNamespacedName ns → (check_ident d i λ r. check_ident d r check_end) ≡ Fine
unfolding check_ident check_end Each
namespaced_from d ns i (one_more n _ j _ (one_more m _ k _ none)) g s (namespaced _ _ a b) =
    parts_ident d n _ g ((identifier_exact n).1 (a, s.0)) (parts_ident d m _ g ((identifier_exact m).1 (b, s.1.0)) refl)
namespaced_from d _ _ none g s e = elim e [ ]
namespaced_from d _ _ (one_more n _ j _ none) g s e = elim e [ ]
namespaced_from d _ _ (one_more n _ j _ (one_more m _ k _ (one_more _ ns i r _))) g s e = elim e [ ]

-- ---- member expressions

-- what each name of a member is
record Members (k : ℕ) (i : Row) : Type 0 where
  names : List Bytes
  fields : Idents names i
  idents : Each JsxIdentifier names
  short : Each Short names
  plain : Each NoHyphen names
  few : length names ≤ k

plain_of : (n : Bytes) → T (no_hyphen n) → NoHyphen n
unfolding no_hyphen NoHyphen
plain_of [] h = tt
plain_of (c ∷ n) h =
    let p = and_both (not (eqb c 45)) (no_hyphen n) h in
    (λ e. T_not (eqb c 45) p.0 (subst (λ (x : ℕ). T (eqb x 45)) (sym e) tt), plain_of n p.1)

of_plain : (n : Bytes) → NoHyphen n → T (no_hyphen n)
unfolding no_hyphen NoHyphen
of_plain [] h = tt
of_plain (c ∷ n) h = both_and (not (eqb c 45)) (no_hyphen n) (not_T (eqb c 45) (λ t. h.0 (eqb→eq c 45 t))) (of_plain n h.1)

members_to : (k d : ℕ) (i : Row) → check_members k d i ≡ Fine → Members k i
unfolding check_members Each
members_to k d end e = record { names = []; fields = none; idents = tt; short = tt; plain = tt; few = omega arith }
members_to k d (loose b) e = refused R.Truncated e
members_to zero d (field t n i r) e = refused R.Misplaced e
members_to (suc k) d (field t n i r) e =
    let a = after_fine _ _ e in
    let h = header_fine (eqb t 0x40) d a.0 in
    let b = after_fine _ _ a.1 in
    let p = and_both (is_name n) (no_hyphen n) (unless_fine (is_name n && no_hyphen n) R.BadName b.0) in
    let x = (identifier_exact n).0 p.0 in
    let m = members_to k d r b.1 in
    record {
      names = n ∷ m.names;
      fields = one_ident t n m.names i r h.0 m.fields;
      idents = (x.0, m.idents);
      short = (x.1, m.short);
      plain = (plain_of n p.1, m.plain);
      few = omega (arith, m.few);
    }

members_from : (k d : ℕ) (ns : List Bytes) (i : Row) → Idents ns i → Deep d → Each JsxIdentifier ns → Each Short ns → Each NoHyphen ns → length ns ≤ k → check_members k d i ≡ Fine
unfolding check_members Each
members_from k d ns i none g a s p l = refl
members_from zero d ns i (one_more n ms j r is) g a s p l = absurd (omega arith)
members_from (suc k) d ns i (one_more n ms j r is) g a s p l =
    let named = fine_unless (is_name n && no_hyphen n) R.BadName (both_and (is_name n) (no_hyphen n) ((identifier_exact n).1 (a.0, s.0)) (of_plain n p.0)) in
    fine_after _ _ (fine_header true d tt g) (fine_after _ _ named (members_from k d ms r is g a.1 s.1 p.1 (omega arith)))

-- a member of two names is not too deep where it is taken
members_deep : (d : ℕ) (i : Row) → T (at_least 2 i) → check_members 8 d i ≡ Fine → Deep d
unfolding at_least check_members
members_deep d end t e = absurd t
members_deep d (loose b) t e = absurd t
members_deep d (field t n i r) h e = (header_fine (eqb t 0x40) d (after_fine _ _ e).0).1

enough_to : (k : ℕ) (ns : List Bytes) (i : Row) → Idents ns i → T (at_least k i) → k ≤ length ns
unfolding at_least
enough_to zero ns i is t = omega arith
enough_to (suc k) ns i none t = absurd t
enough_to (suc k) ns i (one_more n ms j r is) t = omega (arith, enough_to k ms r is t)

enough_from : (k : ℕ) (ns : List Bytes) (i : Row) → Idents ns i → k ≤ length ns → T (at_least k i)
unfolding at_least
enough_from zero ns i is l = tt
enough_from (suc k) ns i none l = absurd (omega arith)
enough_from (suc k) ns i (one_more n ms j r is) l = enough_from k ms r is (omega arith)

-- a member expression with more names behind it
more_members : (ms ns : List Bytes) → JsxMemberExpression ns → Each JsxIdentifier ms → JsxMemberExpression (ns ++ ms)
unfolding Each
more_members [] ns e h = subst JsxMemberExpression (sym (append-nil ns)) e
more_members (m ∷ ms) ns e h = subst JsxMemberExpression (append_assoc ns (m ∷ []) ms) (more_members ms (ns ++ m ∷ []) (and_member ns m e h.0) h.1)

member_of : (ns : List Bytes) → Each JsxIdentifier ns → 2 ≤ length ns → JsxMemberExpression ns
unfolding Each
member_of [] h l = absurd (omega arith)
member_of (n ∷ []) h l = absurd (omega arith)
member_of (n ∷ m ∷ ns) h l = more_members ns (n ∷ m ∷ []) (member n m h.0 h.1.0) h.1.1

each_more : (P : Bytes → Type 0) (ns : List Bytes) (m : Bytes) → Each P ns → P m → Each P (ns ++ m ∷ [])
unfolding Each
each_more P [] m h p = (p, tt)
each_more P (n ∷ ns) m h p = (h.0, each_more P ns m h.1 p)

of_member : (ns : List Bytes) → JsxMemberExpression ns → Each JsxIdentifier ns × (2 ≤ length ns)
unfolding Each
of_member ns (member n m a b) = ((a, (b, tt)), omega arith)
of_member ns (and_member ms m e a) = let p = of_member ms e in (each_more JsxIdentifier ms m p.0 a, rw length-append (omega (arith, p.1)))

-- ---- names, by their tags

name_to : (t d : ℕ) (f : Bytes) (i : Row) → NameTag t → check_name_by t d f i ≡ Fine → (k : ElementName) × (element_name_tag k ≡ t) × ElementNameBody k d f i
unfolding check_name_by choose check_name element_name_tag ElementNameBody
name_to t d f i K.identifier_tag e = (J.ElementName.identifier, refl, (identifier_exact f).0 (unless_fine (is_name f) R.BadName e))
name_to t d f i K.namespaced_tag e = (J.ElementName.namespaced_name, refl, namespaced_to d i e)
name_to t d f i K.member_tag e =
    let a = after_fine _ _ e in
    let two = unless_fine (at_least 2 i) R.Misplaced a.1 in
    let m = members_to 8 d i a.0 in
    let l = enough_to 2 m.names i m.fields two in
    (J.member_expression, refl, record { names = m.names; fields = m.fields; deep = members_deep d i two a.0; short = m.short; production = (member_of m.names m.idents l, m.plain, m.few) })

name_from : (d : ℕ) (f : Bytes) (i : Row) (k : ElementName) → ElementNameBody k d f i → check_name_by (element_name_tag k) d f i ≡ Fine
unfolding check_name_by choose check_name element_name_tag ElementNameBody
name_from d f i J.ElementName.identifier b = fine_unless (is_name f) R.BadName ((identifier_exact f).1 b)
name_from d f i J.ElementName.namespaced_name b = namespaced_from d b.names i b.fields b.deep b.short b.production
name_from d f i J.member_expression b =
    let p = of_member b.names b.production.0 in
    fine_after _ _ (members_from 8 d b.names i b.fields b.deep p.0 b.short b.production.1 b.production.2)
    (fine_unless (at_least 2 i) R.Misplaced (enough_from 2 b.names i b.fields p.1))

-- an element's name is one of JSX's three kinds, made as JSX's productions make it, within 01's limits
pub element_name_exact : (t d : ℕ) (f : Bytes) (i r : Row) →
    check_element d (field t f i r) ≡ Fine ↔ OneOf ElementName element_name_tag (λ k. ElementNameBody k (suc d) f i) t d (check_attributes d r)
unfolding check_element element_name_tag
element_name_exact t d f i r =
    exact ElementName element_name_tag (λ k. ElementNameBody k (suc d) f i) (λ t. is_name_tag t) (λ t. check_name_by t (suc d) f i) (check_attributes d r) d (λ t h e. name_to t (suc d) f i (K.name_tag t h) e)
    (λ k b. (placed k, name_from (suc d) f i k b)) t
  where
    placed : (k : ElementName) → T (is_name_tag (element_name_tag k))
    placed J.ElementName.identifier = tt
    placed J.ElementName.namespaced_name = tt
    placed J.member_expression = tt

-- an attribute's is one of two of them
pub attribute_name_exact : (t d : ℕ) (f : Bytes) (i r : Row) →
    check_attribute d (field t f i r) ≡ Fine ↔ OneOf AttributeName (λ k. element_name_tag (as_element_name k)) (λ k. ElementNameBody (as_element_name k) (suc d) f i) t d (check_value d r)
unfolding check_attribute check_name_by choose check_name element_name_tag ElementNameBody as_element_name
attribute_name_exact t d f i r =
    exact AttributeName (λ k. element_name_tag (as_element_name k)) (λ k. ElementNameBody (as_element_name k) (suc d) f i) (λ t. eqb t 0x40 || eqb t 0x42) (λ t. check_name_by t (suc d) f i) (check_value d r) d
    (λ t h e. to t (K.attr_name_tag t h) e) from t
  where
    to : (t : ℕ) → AttrNameTag t → check_name_by t (suc d) f i ≡ Fine → (k : AttributeName) × (element_name_tag (as_element_name k) ≡ t) × ElementNameBody (as_element_name k) (suc d) f i
    to t K.ident_attr_tag e = (J.AttributeName.identifier, refl, (identifier_exact f).0 (unless_fine (is_name f) R.BadName e))
    to t K.namespaced_attr_tag e = (J.AttributeName.namespaced_name, refl, namespaced_to (suc d) i e)

    from : (k : AttributeName) → ElementNameBody (as_element_name k) (suc d) f i →
        T (eqb (element_name_tag (as_element_name k)) 0x40 || eqb (element_name_tag (as_element_name k)) 0x42) × (check_name_by (element_name_tag (as_element_name k)) (suc d) f i ≡ Fine)
    from J.AttributeName.identifier b = (tt, name_from (suc d) f i J.ElementName.identifier b)
    from J.AttributeName.namespaced_name b = (tt, name_from (suc d) f i J.ElementName.namespaced_name b)

-- ---- braces hold nothing or one expression

braces : {C : Type 0} (i : Row) (d : ℕ) → check_container d i ≡ Fine → (check_end i ≡ Fine → C) → (check_expr d i ≡ Fine → C) → C
unfolding check_container check_end
braces end d e p q = p refl
braces (loose b) d e p q = refused R.Truncated e
braces (field t f i r) d e p q = q e

braces_empty : (i : Row) (d : ℕ) → check_end i ≡ Fine → check_container d i ≡ Fine
unfolding check_container check_end
braces_empty end d e = refl
braces_empty (loose b) d e = e
braces_empty (field t f i r) d e = refused R.Misplaced e

braces_expression : (i : Row) (d : ℕ) → check_expr d i ≡ Fine → check_container d i ≡ Fine
unfolding check_container
braces_expression end d e = refl
braces_expression (loose b) d e = e
braces_expression (field t f i r) d e = e

-- ---- values, children, attributes

-- a value may also be absent
pub value_absent : (d : ℕ) → check_value d end ≡ Fine
unfolding check_value
value_absent d = refl

abbrev value_given : ℕ → ℕ → Bytes → Row → Verdict
value_given t d f i = choose (eqb t 0x51) (λ _. check_text f) λ _. choose (eqb t 0x52) (λ _. check_container d i) λ _. choose (eqb t 0x30) (λ _. check_element d i) λ _. check_children d i

pub value_exact : (t d : ℕ) (f : Bytes) (i r : Row) → check_value d (field t f i r) ≡ Fine ↔ OneOf ValueTaken J.value_tag (λ k. value_body k (suc d) f i ≡ Fine) t d (check_end r)
unfolding check_value choose J.value_tag value_body
value_exact t d f i r =
    exact ValueTaken J.value_tag (λ k. value_body k (suc d) f i ≡ Fine) (λ t. eqb t 0x51 || eqb t 0x52 || is_tag t) (λ t. value_given t (suc d) f i) (check_end r) d (λ t h e. to t (K.value_tag t h) e) from t
  where
    to : (t : ℕ) → ValueTag t → value_given t (suc d) f i ≡ Fine → (k : ValueTaken) × (J.value_tag k ≡ t) × (value_body k (suc d) f i ≡ Fine)
    to t K.string_value_tag e = (J.of_jsx J.string, refl, e)
    to t K.container_value_tag e = braces i (suc d) e (λ e. (J.ValueTaken.empty_braces, refl, e)) (λ e. (J.of_jsx J.AttributeValue.expression, refl, e))
    to t K.element_value_tag e = (J.of_jsx J.AttributeValue.element, refl, e)
    to t K.fragment_value_tag e = (J.of_jsx J.AttributeValue.fragment, refl, e)

    from : (k : ValueTaken) → value_body k (suc d) f i ≡ Fine → T (eqb (J.value_tag k) 0x51 || eqb (J.value_tag k) 0x52 || is_tag (J.value_tag k)) × (value_given (J.value_tag k) (suc d) f i ≡ Fine)
    from (J.of_jsx J.string) e = (tt, e)
    from (J.of_jsx J.AttributeValue.expression) e = (tt, braces_expression i (suc d) e)
    from (J.of_jsx J.AttributeValue.element) e = (tt, e)
    from (J.of_jsx J.AttributeValue.fragment) e = (tt, e)
    from J.ValueTaken.empty_braces e = (tt, braces_empty i (suc d) e)

abbrev child_given : ℕ → ℕ → Bytes → Row → Verdict
child_given t d f i = check_child_by t f (λ _. check_container d i) (λ _. check_expr d i) (λ _. check_element d i) (λ _. check_children d i)

pub children_exact : (t d : ℕ) (f : Bytes) (i r : Row) → check_children d (field t f i r) ≡ Fine ↔ OneOf Child J.child_tag (λ k. child_body k (suc d) f i ≡ Fine) t d (check_children d r)
unfolding check_children check_child_by choose J.child_tag child_body
children_exact t d f i r =
    exact Child J.child_tag (λ k. child_body k (suc d) f i ≡ Fine) (λ t. is_child t) (λ t. child_given t (suc d) f i) (check_children d r) d (λ t h e. to t (K.child_tag t h) e) from t
  where
    to : (t : ℕ) → ChildTag t → child_given t (suc d) f i ≡ Fine → (k : Child) × (J.child_tag k ≡ t) × (child_body k (suc d) f i ≡ Fine)
    to t K.text_tag e = (J.text, refl, e)
    to t K.container_tag e = braces i (suc d) e (λ e. (J.Child.empty_braces, refl, e)) (λ e. (J.Child.expression, refl, e))
    to t K.element_child_tag e = (J.Child.element, refl, e)
    to t K.fragment_child_tag e = (J.Child.fragment, refl, e)
    to t K.spread_child_tag e = (J.spread, refl, e)

    from : (k : Child) → child_body k (suc d) f i ≡ Fine → T (is_child (J.child_tag k)) × (child_given (J.child_tag k) (suc d) f i ≡ Fine)
    from J.text e = (tt, e)
    from J.Child.element e = (tt, e)
    from J.Child.fragment e = (tt, e)
    from J.Child.empty_braces e = (tt, braces_empty i (suc d) e)
    from J.Child.expression e = (tt, braces_expression i (suc d) e)
    from J.spread e = (tt, e)

-- attributes stand before children: a field behind the name is an attribute, with more behind it, or the first child
pub attributes_exact : (t d : ℕ) (f : Bytes) (i r : Row) →
    check_attributes d (field t f i r) ≡ Fine ↔ (OneOf Attribute J.attribute_tag (λ k. attribute_body k (suc d) i ≡ Fine) t d (check_attributes d r) ⊎ (check_children d (field t f i r) ≡ Fine))
unfolding check_attributes choose J.attribute_tag attribute_body
attributes_exact t d f i r = (
  λ e.
      let a = after_fine _ _ e in
      let h = header_fine (is_attribute t || is_child t) d a.0 in
      to t (K.attribute_tag t h.0) h.0 h.1 a.1,
  λ s. elim s [ inl o ↦ subst (λ (u : ℕ). check_attributes d (field u f i r) ≡ Fine) o.tag_is (from o.kind o.deep o.body o.rest_fine) | inr e ↦ (children_behind (field t f i r) d e).0 ],
)
  where
    to : (t : ℕ) → AttributeTag t → T (is_attribute t || is_child t) → Deep d →
        (choose (eqb t 0x50) (λ _. after (check_attribute (suc d) i) λ _. check_attributes d r) λ _. choose (eqb t 0x53) (λ _. after (check_expr (suc d) i) λ _. check_attributes d r) λ _. after (child_given t (suc d) f i) λ _. check_children d r) ≡ Fine →
        OneOf Attribute J.attribute_tag (λ k. attribute_body k (suc d) i ≡ Fine) t d (check_attributes d r) ⊎ (check_children d (field t f i r) ≡ Fine)
    to t K.named_attribute_tag h g e = let a = after_fine _ _ e in inl (record { kind = J.attribute; tag_is = refl; deep = g; body = a.0; rest_fine = a.1 })
    to t K.spread_attribute_tag h g e = let a = after_fine _ _ e in inl (record { kind = J.spread_attribute; tag_is = refl; deep = g; body = a.0; rest_fine = a.1 })
    to t (K.child_behind_tag x p q) h g e = inr (fine_after _ _ (fine_header (is_child t) d (rw (p, q) at h) g) (rw (p, q) at e))

    from : (k : Attribute) → Deep d → attribute_body k (suc d) i ≡ Fine → check_attributes d r ≡ Fine → check_attributes d (field (J.attribute_tag k) f i r) ≡ Fine
    from J.attribute g b m = fine_after _ _ (fine_header true d tt g) (fine_after _ _ b m)
    from J.spread_attribute g b m = fine_after _ _ (fine_header true d tt g) (fine_after _ _ b m)
