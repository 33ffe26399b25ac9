-- Names that the grammar reads are names of 01. Main statements: `element_name_ok`, `attr_name_ok`. Assumes nothing.
use Prim.Native.Nat.{ℕ, suc}
use mathlib.Core.Path.{◌≡◌, refl, sym, ap, subst}
use mathlib.Core.Bool.{Bool, true, false, ◌&&◌, not}
use mathlib.Core.List.{[], ◌∷◌}
use mathlib.Core.Logic.{◌⊎◌, inl, inr}
use native.Mathlib.Omega.{arith}
use lib.Dec.{T, leb, eqb, leb→le, le→leb, eqb→eq}
use lib.ListN.{length}
use Rattle.field.specs.Bytes.{Bytes, pick}
use Rattle.field.specs.Row.{Row, end, field}
use Rattle.page.specs.Page as P
use Rattle.page.specs.Check.{name_parts, is_name, no_hyphen}
use Rattle.page.specs.Encode.{texts_row, name_row, attr_name_row}
use Rattle.page.specs.Limits.{Deep, NameOk, MembersOk, ElementNameOk, AttrNameOk}
use Rattle.page.proofs.Booleans.{and_both, both_and}
use Rattle.grammar.specs.Signs.{each, letter, digit, name_byte}
use Rattle.grammar.specs.Syntax as S
use Rattle.grammar.specs.Syntax.{part, Name, short, member_parts, attribute_name_fits, member_fits, tag_name_fits}
use Rattle.grammar.proofs.Tests.{or_cases}
use Rattle.grammar.proofs.Letters.{is_ident, Idents}
use Rattle.tag_tree.specs.PageTag.{idents, page_name, page_attr_name}
use Rattle.tag_tree.specs.TagAnswer.{shallow}

-- ---- one identifier

parts_ok : (w : Bytes) → T (each name_byte w) → T (name_parts w)
unfolding each name_parts name_byte letter digit
parts_ok [] t = tt
parts_ok (c ∷ w) t = let p = and_both (name_byte c) (each name_byte w) t in both_and (name_byte c) (name_parts w) p.0 (parts_ok w p.1)

ident_ok : (w : Bytes) → T (is_ident w) → T (short w) → NameOk w
unfolding is_ident short is_name letter
ident_ok [] t s = absurd t
ident_ok (c ∷ w) t s =
    let p = and_both (letter c) (each name_byte w) t in
    both_and (leb (length (c ∷ w)) 128) (letter c && name_parts w) s (both_and (letter c) (name_parts w) p.0 (parts_ok w p.1))

not_not : (b : Bool) → T (not (not b)) → T b
not_not true t = tt
not_not false t = absurd t

hyphen_ok : (w : Bytes) → T (each (λ c. not (eqb c 45)) w) → T (no_hyphen w)
unfolding each no_hyphen
hyphen_ok [] t = tt
hyphen_ok (c ∷ w) t = let p = and_both (not (eqb c 45)) (each (λ c. not (eqb c 45)) w) t in both_and (not (eqb c 45)) (no_hyphen w) p.0 (hyphen_ok w p.1)

member_ok : (w : Bytes) → T (is_ident w) → T (short w) → T (S.no_hyphen w) → T (is_name w && no_hyphen w)
unfolding S.no_hyphen
member_ok w t s h = both_and (is_name w) (no_hyphen w) (ident_ok w t s) (hyphen_ok w (not_not (each (λ c. not (eqb c 45)) w) h))

-- ---- a field's own depth, what it holds, and what follows

pub field_shallow : (d t : ℕ) (f : Bytes) (i r : Row) → T (shallow d (field t f i r)) → Deep d × T (shallow (suc d) i) × T (shallow d r)
unfolding shallow
field_shallow d t f i r h =
    let p = and_both (leb d 48) (shallow (suc d) i && shallow d r) h in
    let q = and_both (shallow (suc d) i) (shallow d r) p.1 in
    (p.0, q.0, q.1)

-- ---- names of attributes

pub attr_name_ok : (n : Name) (d : ℕ) (x : Row) → Idents n → T (attribute_name_fits n) → T (shallow d (attr_name_row (page_attr_name n) x)) → AttrNameOk d (page_attr_name n) × T (shallow d x)
unfolding Idents attribute_name_fits page_attr_name AttrNameOk attr_name_row texts_row
attr_name_ok [] d x i f h = absurd f
attr_name_ok (part a w ∷ []) d x i f h = let p = field_shallow d 0x40 w end x h in ((p.0, ident_ok w i.0 f), p.2)
attr_name_ok (part a w ∷ part e v ∷ []) d x i f h =
    let p = field_shallow d 0x42 [] (field 0x40 w end (field 0x40 v end end)) x h in
    let q = field_shallow (suc d) 0x40 w end (field 0x40 v end end) p.1 in
    let b = and_both (eqb e 58 && short w) (short v) f in
    let c = and_both (eqb e 58) (short w) b.0 in
    ((p.0, q.0, ident_ok w i.0 c.1, ident_ok v i.1.0 b.1), p.2)
attr_name_ok (part a w ∷ part e v ∷ p ∷ ps) d x i f h = absurd f

-- ---- names of elements

members_ok : (d : ℕ) (ps : Name) → Idents ps → T (member_parts ps) → T (shallow d (texts_row 0x40 (idents ps))) → MembersOk d (idents ps)
unfolding Idents member_parts idents MembersOk texts_row
members_ok d [] i f h = tt
members_ok d (part e w ∷ ps) i f h =
    let p = field_shallow d 0x40 w end (texts_row 0x40 (idents ps)) h in
    let b = and_both (eqb e 46 && short w && S.no_hyphen w) (member_parts ps) f in
    let c = and_both (eqb e 46 && short w) (S.no_hyphen w) b.0 in
    let k = and_both (eqb e 46) (short w) c.0 in
    (p.0, member_ok w i.0 k.1 c.1, members_ok d ps i.1 b.1 p.2)

length_idents : (ps : Name) → length (idents ps) ≡ length ps
unfolding idents
length_idents [] = refl
length_idents (part d w ∷ ps) = ap suc (length_idents ps)

member_name_ok : (a e : ℕ) (w v : Bytes) (ps : Name) (d : ℕ) (x : Row) → Idents (part a w ∷ part e v ∷ ps) → T (member_fits (part a w ∷ part e v ∷ ps)) → T (shallow d (name_row (P.member (w ∷ v ∷ idents ps)) x)) → ElementNameOk d (P.member (w ∷ v ∷ idents ps)) × T (shallow d x)
unfolding Idents member_fits ElementNameOk MembersOk name_row texts_row idents
member_name_ok a e w v ps d x i f h =
    let p = field_shallow d 0x41 [] (texts_row 0x40 (w ∷ v ∷ idents ps)) x h in
    let q = field_shallow (suc d) 0x40 w end (texts_row 0x40 (v ∷ idents ps)) p.1 in
    let b = and_both (short w && S.no_hyphen w && leb (length ps) 6) (member_parts (part e v ∷ ps)) f in
    let c = and_both (short w && S.no_hyphen w) (leb (length ps) 6) b.0 in
    let k = and_both (short w) (S.no_hyphen w) c.0 in
    let m = members_ok (suc d) (part e v ∷ ps) i.1 b.1 q.2 in
    let l = leb→le (length ps) 6 c.1 in
    let n = length_idents ps in
    ((p.0, le→leb 2 (length (w ∷ v ∷ idents ps)) (omega arith), le→leb (length (w ∷ v ∷ idents ps)) 8 (omega arith), (q.0, member_ok w i.0 k.0 k.1, m)), p.2)

namespaced_ok : (w v : Bytes) (d : ℕ) (x : Row) → NameOk w → NameOk v → T (shallow d (name_row (P.namespaced w v) x)) → ElementNameOk d (P.namespaced w v) × T (shallow d x)
unfolding ElementNameOk name_row texts_row
namespaced_ok w v d x p q h =
    let k = field_shallow d 0x42 [] (field 0x40 w end (field 0x40 v end end)) x h in
    let m = field_shallow (suc d) 0x40 w end (field 0x40 v end end) k.1 in
    ((k.0, m.0, p, q), k.2)

clash : {A : Type 0} (b : Bool) → b ≡ false → T b → A
clash true e t = let z : ◌≡◌ {A = ℕ} 0 1 = cc in absurd (omega arith)
clash false e t = absurd t

two_fit : (a e : ℕ) (w v : Bytes) (ps : Name) → T (attribute_name_fits (part a w ∷ part e v ∷ ps)) → T (eqb e 58) × T (short w) × T (short v)
unfolding attribute_name_fits
two_fit a e w v [] f =
    let b = and_both (eqb e 58 && short w) (short v) f in
    let c = and_both (eqb e 58) (short w) b.0 in
    (c.0, c.1, b.1)
two_fit a e w v (p ∷ ps) f = absurd f

point_fits : (a e : ℕ) (w v : Bytes) (ps : Name) → T (member_fits (part a w ∷ part e v ∷ ps)) → T (eqb e 46)
unfolding member_fits member_parts
point_fits a e w v ps f =
    let b = and_both (short w && S.no_hyphen w && leb (length ps) 6) (member_parts (part e v ∷ ps)) f in
    let c = and_both (eqb e 46 && short v && S.no_hyphen v) (member_parts ps) b.1 in
    let k = and_both (eqb e 46 && short v) (S.no_hyphen v) c.0 in
    (and_both (eqb e 46) (short v) k.0).0

one_fits : (a : ℕ) (w : Bytes) → T (tag_name_fits (part a w ∷ [])) → T (short w)
unfolding tag_name_fits attribute_name_fits member_fits
one_fits a w f = on (or_cases (short w) false f)
  where
    on : T (short w) ⊎ T false → T (short w)
    on (inl t) = t
    on (inr t) = absurd t

pub element_name_ok : (p : S.Part) (n : Name) (d : ℕ) (x : Row) → Idents (p ∷ n) → T (tag_name_fits (p ∷ n)) → T (shallow d (name_row (page_name (p ∷ n)) x)) → ElementNameOk d (page_name (p ∷ n)) × T (shallow d x)
unfolding Idents tag_name_fits page_name ElementNameOk name_row
element_name_ok (part a w) [] d x i f h = let p = field_shallow d 0x40 w end x h in ((p.0, ident_ok w i.0 (one_fits a w f)), p.2)
element_name_ok (part a w) (part e v ∷ ps) d x i f h =
    on (eqb e 58) refl h (or_cases (attribute_name_fits (part a w ∷ part e v ∷ ps)) (member_fits (part a w ∷ part e v ∷ ps)) f)
  where
    on : (b : Bool) → eqb e 58 ≡ b → T (shallow d (name_row (pick b (P.namespaced w v) (P.member (w ∷ v ∷ idents ps))) x)) → T (attribute_name_fits (part a w ∷ part e v ∷ ps)) ⊎ T (member_fits (part a w ∷ part e v ∷ ps)) → ElementNameOk d (pick b (P.namespaced w v) (P.member (w ∷ v ∷ idents ps))) × T (shallow d x)
    on true q k (inl g) = let m = two_fit a e w v ps g in namespaced_ok w v d x (ident_ok w i.0 m.1) (ident_ok v i.1.0 m.2) k
    on true q k (inr g) =
        let m = eqb→eq e 58 (subst T (sym q) tt) in
        let n = eqb→eq e 46 (point_fits a e w v ps g) in
        absurd (omega arith)
    on false q k (inl g) = clash (eqb e 58) q (two_fit a e w v ps g).0
    on false q k (inr g) = member_name_ok a e w v ps d x i g k
