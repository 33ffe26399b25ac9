-- What the code of src/attribute.rt learns at each return and at each turn of a loop. Main statements: `first_40`, `second_40`,
-- `listed_front`, `asked_key` and the like, `value_is_51` and the like, `written_50`,
-- `written_53`, `written_none`. Assumes nothing.
use Rattle.std.specs.Prelude.{Option, Some, None, MatchOption, IfSome}
use Rattle.std.specs.Iterator.{Yields, YieldsThen}
use Rattle.std.specs.List.{FoldsTo}
use Rattle.std.specs.Fn.{CalledAt}
use denote.Param.Members.{Mut}
use denote.Ref.{Bor}
use mathlib.Core.Path.{◌≡◌, refl, sym, ap, ◌∙◌, subst}
use mathlib.Core.Logic.{◌⊎◌, ⊎_elim}
use mathlib.Core.Bool.{Bool, true, false, ◌||◌, ◌&&◌}
use Prim.Native.Nat.{ℕ, ◌≤◌}
use native.Mathlib.Omega.{arith}
use mathlib.Core.List.{List, [], ◌∷◌, ◌++◌}
use lib.Dec.{eqb}
use lib.ListN.{length}
use borrow.Author.Tests.{eq-eqb, ne_eqb, eqb-true, eqb-false}
use Rattle.field.specs.Bytes.{Bytes, ascii, pick, same, among}
use Rattle.field.specs.Row.{read, Ended}
use Rattle.field.specs.Front.{tag_of_front, body_of, behind_of}
use Rattle.field.specs.Fields.{GivesField, IsFront}
use Rattle.field.specs.declared.reader.Field.{Field}
use Rattle.field.specs.declared.reader.Fields.{Fields}
use Rattle.names.specs.Names as A
use Rattle.names.specs.Names.{normalize_dom_attr_name, get_attr_name, is_boolean_attr, boolean_names}
use Rattle.names.specs.Table.{plain_name}
use Rattle.names.proofs.NormalizeLaws.{normalize_plain}
use Rattle.names.proofs.NamespacedLaws.{colon_free}
use Rattle.names.proofs.NameLaws.{namespaced_never_is, namespaced_never_boolean}
use Rattle.page.specs.Page as P
use Rattle.page.specs.Tree.{texts_in, first_in, second_in, contained, contained_value, contained_in, element_in, fragment_in, attributes_in, attr_name_in, value_in, value_behind}
use Rattle.page.proofs.CheckLaws.{behind_short}
use Rattle.decisions.specs.At.{IdentAt, TagHeld, written}
use Rattle.decisions.proofs.Series.{tested, texts_none, texts_past, texts_20, texts_40, attr_name_42, attr_name_other, value_in_at, value_51, value_52, value_30, value_31, value_other, contained_field, expr_30, expr_31, attributes_50, attributes_53, attributes_other}

-- ---- the first and the second name: r is the first 40 of s, and u is left behind it

abbrev Named : Option Field → Bytes → Bytes → Type 0
Named r s u = MatchOption r ((texts_in 0x40 (read s) ≡ []) × (texts_in 0x40 (read u) ≡ [])) (λ f. texts_in 0x40 (read s) ≡ f.body.now ∷ texts_in 0x40 (read u))

module _ {F : Type 0} (g : Mut F (Bor Field × Unit {0}) Bool) (fn : F) (calls : (x : Field) (b : Bool) (q : F) → CalledAt g fn x b q → (q ≡ fn) × (b ≡ eqb x.tag 0x40)) where
  found : (r : Option Field) (xs : List Field) (s t u : Fields) (p q : F) → p ≡ fn → Yields GivesField s xs t → GivesField t r u →
      FoldsTo (λ p x q. CalledAt g p x false q) p xs q → IfSome r (λ x. (h : F) × CalledAt g q x true h) → Named r s.0.now u.0.now
  found None [] s t u p q e y k f m =
      let n = texts_none (read t.0.now) k.ended 0x40 in
      (ap (λ (x : Fields). texts_in 0x40 (read x.0.now)) y ∙ n, ap (λ (x : Bytes). texts_in 0x40 (read x)) k.stays ∙ n)
  found (Some x) [] s t u p q e y k f m =
      let c = (calls x true m.0 (subst (λ (z : F). CalledAt g z x true m.0) (sym f ∙ e) m.1)).1 in
      ap (λ (x : Fields). texts_in 0x40 (read x.0.now)) y ∙ texts_40 t.0.now x.tag k.tag_is (eqb-true x.tag 0x40 (sym c)) ∙ rw (sym k.body_is, sym k.behind_is)
  found r (x ∷ xs) s t u p q e y k f m =
      let c = calls x false f.0 (subst (λ (z : F). CalledAt g z x false f.0) e f.1) in
      let a = texts_past s.0.now x.tag y.1.tag_is 0x40 (λ z. omega (arith, y.1.tag_below, z)) (eqb-false x.tag 0x40 (sym c.1)) ∙ ap (λ (z : Bytes). texts_in 0x40 (read z)) (sym y.1.behind_is) in
      subst (λ (l : List Bytes). MatchOption r ((l ≡ []) × (texts_in 0x40 (read u.0.now) ≡ [])) (λ f. l ≡ f.body.now ∷ texts_in 0x40 (read u.0.now))) (sym a) (found r xs y.0 t u f.0 q c.0 y.2 k f.2 m)

  module _ (s u : Fields) {r : Option Field} (d : (xs : List Field) × (q : F) × YieldsThen GivesField s xs r u × FoldsTo (λ p x q. CalledAt g p x false q) fn xs q × IfSome r (λ x. (h : F) × CalledAt g q x true h)) where
    named : {o : Option Field} → r ≡ o → Named o s.0.now u.0.now
    named e = subst (λ (o : Option Field). Named o s.0.now u.0.now) e (found r d.0 s d.2.0 u fn d.1 refl d.2.1 d.2.2 d.3 d.4)

    pub first_40 : {f : Field} → r ≡ Some f → f.body.now ≡ first_in (texts_in 0x40 (read s.0.now))
    unfolding first_in
    first_40 e = sym (ap first_in (named e))

    pub second_40 : {f : Field} → r ≡ Some f → first_in (texts_in 0x40 (read u.0.now)) ≡ second_in (texts_in 0x40 (read s.0.now))
    unfolding second_in
    second_40 e = sym (ap second_in (named e))

    pub first_none : r ≡ None → [] ≡ first_in (texts_in 0x40 (read s.0.now))
    unfolding first_in
    first_none e = sym (ap first_in (named e).0)

    pub second_none : r ≡ None → first_in (texts_in 0x40 (read u.0.now)) ≡ second_in (texts_in 0x40 (read s.0.now))
    unfolding first_in second_in
    second_none e = ap first_in (named e).1 ∙ sym (ap second_in (named e).0)

-- ---- a list of names: x is the name that is looked for

pub listed_none : (x s : Bytes) → Ended (read s) → false ≡ among x (texts_in 0x20 (read s))
unfolding among
listed_none x s i = sym (ap (among x) (texts_none (read s) i 0x20))

pub listed_front : (x s : Bytes) (f : Field) (r : Bytes) → IsFront s f.tag f.body.now r → among x (texts_in 0x20 (read s)) ≡ ((eqb f.tag 0x20 && same x f.body.now) || among x (texts_in 0x20 (read r)))
unfolding among
listed_front x s f r k =
    tested f.tag 0x20
    (λ z. ap (among x) (texts_20 s f.tag k.tag_is z) ∙ rw (sym k.body_is, sym k.behind_is, eq-eqb f.tag 0x20 z))
    λ z. ap (among x) (texts_past s f.tag k.tag_is 0x20 (λ y. omega (arith, k.tag_below, y)) z) ∙ rw (sym k.behind_is, ne_eqb f.tag 0x20 z)

-- ---- what is asked of an attribute's name: g is the question

no_name : (norm : Bool) → get_attr_name (A.ident []) norm ≡ []
unfolding get_attr_name plain_name
no_name true = normalize_plain [] refl
no_name false = refl

pub not_ident : (s : Bytes) (t : ℕ) → t ≡ tag_of_front s → (t ≡ 0x40 → ⊥) → (b : Bytes) → attr_name_in (read s) ≡ A.ident b → b ≡ []
not_ident s t e n b h =
    tested t 0x42
    (λ k. let q : A.namespaced (first_in (texts_in 0x40 (read (body_of s)))) (second_in (texts_in 0x40 (read (body_of s)))) ≡ A.ident b = sym (attr_name_42 s t e k) ∙ h in cc)
    (λ m. let q : A.ident [] ≡ A.ident b = sym (attr_name_other s t e n m) ∙ h in cc)

-- it is asked of an identifier alone: neither a missing name nor anything namespaced is what is asked for
asked : (g : Bytes → Bool) → g [] ≡ false → (norm : Bool) → ((x y : Bytes) → g (normalize_dom_attr_name (x ++ (58 ∷ y))) ≡ false) →
    (n : A.AttrName) (o : Option (Bor Bytes)) → IdentAt n o →
    {r : Bool} → (o ≡ None → r ≡ false) → ((b : Bor Bytes) → o ≡ Some b → r ≡ g (pick norm (normalize_dom_attr_name b.now) b.now)) → r ≡ g (get_attr_name n norm)
unfolding get_attr_name
asked g z norm k n (Some b) e f h = rw e (h b refl)
asked g z norm k (A.ident m) None e f h = f refl ∙ sym (ap (λ (x : Bytes). g (get_attr_name (A.ident x) norm)) (e m refl) ∙ (ap g (no_name norm) ∙ z))
asked g z norm k (A.namespaced x y) None e f h = f refl ∙ sym (k x y)

asked_as : (x : Bytes) → colon_free x ≡ true → same (ascii "href") x ≡ false → same [] x ≡ false → (norm : Bool) →
    (n : A.AttrName) (o : Option (Bor Bytes)) → IdentAt n o →
    {r : Bool} → (o ≡ None → r ≡ false) → ((b : Bor Bytes) → o ≡ Some b → r ≡ same (pick norm (normalize_dom_attr_name b.now) b.now) x) → r ≡ same (get_attr_name n norm) x
asked_as x c d z norm = asked (λ v. same v x) z norm (namespaced_never_is x c d)

module _ (n : A.AttrName) (o : Option (Bor Bytes)) (e : IdentAt n o) {r : Bool} (f : o ≡ None → r ≡ false) where
  pub asked_key : (norm : Bool) → ((b : Bor Bytes) → o ≡ Some b → r ≡ same (pick norm (normalize_dom_attr_name b.now) b.now) (ascii "key")) → r ≡ same (get_attr_name n norm) (ascii "key")
  unfolding colon_free same
  asked_key norm h = asked_as (ascii "key") refl refl refl norm n o e f h

  pub asked_ref : ((b : Bor Bytes) → o ≡ Some b → r ≡ same (normalize_dom_attr_name b.now) (ascii "ref")) → r ≡ same (get_attr_name n true) (ascii "ref")
  unfolding colon_free same
  asked_ref h = asked_as (ascii "ref") refl refl refl true n o e f h

  pub asked_inner_html : ((b : Bor Bytes) → o ≡ Some b → r ≡ same b.now (ascii "dangerouslySetInnerHTML")) → r ≡ same (get_attr_name n false) (ascii "dangerouslySetInnerHTML")
  unfolding colon_free same
  asked_inner_html h = asked_as (ascii "dangerouslySetInnerHTML") refl refl refl false n o e f h

  pub asked_boolean : ((b : Bor Bytes) → o ≡ Some b → r ≡ is_boolean_attr (normalize_dom_attr_name b.now)) → r ≡ is_boolean_attr (get_attr_name n true)
  unfolding is_boolean_attr boolean_names among same
  asked_boolean h = asked is_boolean_attr refl true namespaced_never_boolean n o e f h

-- ---- values

-- s is what lies behind the name
module _ (a : Bytes) {s : Bytes} (q : s ≡ behind_of a) where
  value_here : value_in (read a) ≡ value_behind (read s)
  value_here = value_in_at a ∙ ap (λ (x : Bytes). value_behind (read x)) (sym q)

  within : length s ≤ length a
  within = omega (arith, behind_short a, ap length q)

  module _ {t : ℕ} {b r : Bytes} (f : IsFront s t b r) where
    pub value_is_51 : t ≡ 0x51 → value_in (read a) ≡ P.string_value b
    value_is_51 k = value_here ∙ value_51 s t f.tag_is k ∙ ap P.string_value (sym f.body_is)

    pub value_is_52 : t ≡ 0x52 → (value_in (read a) ≡ contained_value (contained_in (read b))) × (length b ≤ length a)
    value_is_52 k =
        (value_here ∙ value_52 s t f.tag_is k ∙ ap (λ (x : Bytes). contained_value (contained_in (read x))) (sym f.body_is), omega (arith, f.sizes, within))

    pub value_is_tag : (t ≡ 0x30) ⊎ (t ≡ 0x31) → TagHeld (value_in (read a)) s × (length s ≤ length a)
    value_is_tag d = (
      ⊎_elim
          (λ k. record { tag = element_in (read (body_of s)); value_is = value_here ∙ value_30 s t f.tag_is k; expression_is = contained_field s t f.tag_is (λ z. omega (arith, k, z)) ∙ ap contained (expr_30 s t f.tag_is k) })
          (λ k. record { tag = fragment_in (read (body_of s)); value_is = value_here ∙ value_31 s t f.tag_is k; expression_is = contained_field s t f.tag_is (λ z. omega (arith, k, z)) ∙ ap contained (expr_31 s t f.tag_is k) })
          d,
      within,
    )

  pub value_is_absent : {t : ℕ} → t ≡ tag_of_front s → (t ≡ 0x51 → ⊥) → (t ≡ 0x52 → ⊥) → (t ≡ 0x30 → ⊥) → (t ≡ 0x31 → ⊥) → value_in (read a) ≡ P.absent
  value_is_absent {t} e b c d f = value_here ∙ value_other s t e b c d f

-- ---- the attributes that are written, one after the other

module _ (s : Bytes) {t : ℕ} {b r : Bytes} (f : IsFront s t b r) where
  pub written_50 : t ≡ 0x50 → written (attributes_in (read s)) ≡ P.attribute (attr_name_in (read b)) (value_in (read b)) (written (attributes_in (read r)))
  unfolding written
  written_50 k = ap written (attributes_50 s t f.tag_is k) ∙ rw (f.body_is, f.behind_is)

  pub written_53 : t ≡ 0x53 → written (attributes_in (read r)) ≡ written (attributes_in (read s))
  unfolding written
  written_53 k = sym (ap written (attributes_53 s t f.tag_is k) ∙ rw f.behind_is)

pub written_none : (s : Bytes) {t : ℕ} → t ≡ tag_of_front s → (t ≡ 0x50 → ⊥) → (t ≡ 0x53 → ⊥) → written (attributes_in (read s)) ≡ P.no_attributes
unfolding written
written_none s {t} e k l = ap written (attributes_other s t e k l)
