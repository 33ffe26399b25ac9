-- What a name's tag says: its field, and that of an attribute's name. Main statements: `name_one`, `name_many`, `attr_name_same`, `member_tag`.
-- Assumes nothing.
use Prim.Native.Nat.{ℕ}
use mathlib.Core.Path.{◌≡◌, refl, sym, ◌∙◌, ap, subst}
use mathlib.Core.Bool.{Bool, true, false, ◌&&◌, ◌||◌, not}
use mathlib.Core.List.{List, [], ◌∷◌, ◌++◌, append-nil}
use mathlib.Core.Logic.{◌⊎◌, inl, inr}
use native.Mathlib.Omega.{arith}
use lib.Dec.{T, leb, eqb, eqb→eq}
use lib.ListN.{length}
use Rattle.field.specs.Bytes.{Bytes, pick}
use Rattle.field.specs.Row.{Row, end, field, field_bytes, bytes}
use Rattle.page.specs.Page as P
use Rattle.page.specs.Encode.{texts_row, name_row, attr_name_row}
use Rattle.page.proofs.Booleans.{and_both}
use Rattle.grammar.specs.Signs.{choose}
use Rattle.grammar.specs.Syntax.{Part, part, Name, short, no_hyphen, member_parts, attribute_name_fits, member_fits, tag_name_fits}
use Rattle.grammar.proofs.Tests.{or_cases, or_left, at_eq}
use Rattle.tag_tree.specs.PageTag.{idents, page_name, page_attr_name}
use Rattle.read_tag.specs.Progress.{name_bytes, attr_name_bytes}
use Rattle.read_tag.specs.Shapes.{name_tag}
use Rattle.read_tag.specs.Names.{parts_bytes}

-- ---- which names have a colon

-- a second part behind a colon is the last
pub colon_last : (a e : ℕ) (w v : Bytes) (q : Part) (qs : Name) → eqb e 58 ≡ true → T (tag_name_fits (part a w ∷ part e v ∷ q ∷ qs)) → ⊥
unfolding tag_name_fits attribute_name_fits member_fits member_parts
colon_last a e w v q qs h f =
    let x = and_both (short w && no_hyphen w && leb (length (q ∷ qs)) 6) (member_parts (part e v ∷ q ∷ qs)) f in
    let y = and_both (eqb e 46 && short v && no_hyphen v) (member_parts (q ∷ qs)) x.1 in
    let z = and_both (eqb e 46 && short v) (no_hyphen v) y.0 in
    let p = and_both (eqb e 46) (short v) z.0 in
    let i = eqb→eq e 46 p.0 in
    let j = eqb→eq e 58 (subst T (sym h) tt) in
    omega arith

colon_two : (a e : ℕ) (w v : Bytes) → eqb e 58 ≡ true → T (tag_name_fits (part a w ∷ part e v ∷ [])) → T (attribute_name_fits (part a w ∷ part e v ∷ []))
unfolding tag_name_fits attribute_name_fits member_fits member_parts
colon_two a e w v h f = on (or_cases (eqb e 58 && short w && short v) ((short w && no_hyphen w && leb 0 6) && ((eqb e 46 && short v && no_hyphen v) && true)) f)
  where
    on : T (eqb e 58 && short w && short v) ⊎ T ((short w && no_hyphen w && leb 0 6) && ((eqb e 46 && short v && no_hyphen v) && true)) → T (eqb e 58 && short w && short v)
    on (inl t) = t
    on (inr t) =
        let x = and_both (short w && no_hyphen w && leb 0 6) ((eqb e 46 && short v && no_hyphen v) && true) t in
        let y = and_both (eqb e 46 && short v && no_hyphen v) true x.1 in
        let z = and_both (eqb e 46 && short v) (no_hyphen v) y.0 in
        let p = and_both (eqb e 46) (short v) z.0 in
        let i = eqb→eq e 46 p.0 in
        let j = eqb→eq e 58 (subst T (sym h) tt) in
        absurd (omega arith)

-- ---- a name's bytes by its tag

-- a 40 is one part
pub name_alone : (p : Part) (c : ℕ) (v : Bytes) (ps : Name) (t : ℕ) → t ≡ name_tag (p ∷ part c v ∷ ps) → t ≡ 0x40 → ⊥
unfolding name_tag choose
name_alone p c v ps t e z = on (eqb c 58) (sym e ∙ z)
  where
    on : (b : Bool) → ◌≡◌ {A = ℕ} (choose b 0x42 0x41) 0x40 → ⊥
    on true r = omega arith
    on false r = omega arith

pub one_part_bytes : (d : ℕ) (w : Bytes) → parts_bytes (part d w ∷ []) ≡ field_bytes 0x40 w
unfolding parts_bytes idents texts_row bytes
one_part_bytes d w = append-nil (field_bytes 0x40 (w ++ [])) ∙ ap (field_bytes 0x40) (append-nil w)

pub name_one : (n : Name) (t : ℕ) → T (tag_name_fits n) → t ≡ name_tag n → t ≡ 0x40 → parts_bytes n ≡ name_bytes n
unfolding tag_name_fits attribute_name_fits member_fits name_tag choose
name_one [] t f e z = absurd f
name_one (part d w ∷ []) t f e z = unfold parts_bytes name_bytes idents page_name texts_row name_row in refl
name_one (p ∷ part c v ∷ ps) t f e z = absurd (name_alone p c v ps t e z)

field_whole : (t : ℕ) (ws : List Bytes) → field_bytes t (bytes (texts_row 0x40 ws)) ≡ bytes (field t [] (texts_row 0x40 ws) end)
unfolding bytes
field_whole t ws = sym (append-nil (field_bytes t (bytes (texts_row 0x40 ws))))

pub name_many : (n : Name) (t : ℕ) → T (tag_name_fits n) → t ≡ name_tag n → (t ≡ 0x40 → ⊥) → field_bytes t (parts_bytes n) ≡ name_bytes n
unfolding name_tag choose parts_bytes name_bytes idents page_name name_row
name_many [] t f e z = absurd (z e)
name_many (p ∷ []) t f e z = absurd (z e)
name_many (part d w ∷ part c v ∷ ps) t f e z = on (eqb c 58) ps refl e f
  where
    on : (b : Bool) (ps : Name) → eqb c 58 ≡ b → t ≡ choose b 0x42 0x41 → T (tag_name_fits (part d w ∷ part c v ∷ ps)) → field_bytes t (bytes (texts_row 0x40 (w ∷ v ∷ idents ps))) ≡ bytes (name_row (pick b (P.namespaced w v) (P.member (w ∷ v ∷ idents ps))) end)
    on true [] h r g = ap (λ (m : ℕ). field_bytes m (bytes (texts_row 0x40 (w ∷ v ∷ [])))) r ∙ field_whole 0x42 (w ∷ v ∷ [])
    on true (q ∷ qs) h r g = absurd (colon_last d c w v q qs h g)
    on false ps h r g = ap (λ (m : ℕ). field_bytes m (bytes (texts_row 0x40 (w ∷ v ∷ idents ps)))) r ∙ field_whole 0x41 (w ∷ v ∷ idents ps)

-- ---- names of attributes

pub attr_row_same : (n : Name) → T (attribute_name_fits n) → (x : Row) → attr_name_row (page_attr_name n) x ≡ name_row (page_name n) x
unfolding attribute_name_fits attr_name_row page_attr_name name_row page_name
attr_row_same [] f x = absurd f
attr_row_same (part d w ∷ []) f x = refl
attr_row_same (part d w ∷ part e v ∷ []) f x =
    let p = and_both (eqb e 58 && short w) (short v) f in
    let q = and_both (eqb e 58) (short w) p.0 in
    at_eq (λ (c : ℕ). field 0x42 [] (texts_row 0x40 (w ∷ v ∷ [])) x ≡ name_row (pick (eqb c 58) (P.namespaced w v) (P.member (w ∷ v ∷ idents []))) x) e 58 q.0 refl
attr_row_same (part d w ∷ part e v ∷ q ∷ qs) f x = absurd f

pub attr_name_same : (n : Name) → T (attribute_name_fits n) → attr_name_bytes n ≡ name_bytes n
unfolding attr_name_bytes name_bytes attribute_name_fits
attr_name_same [] f = absurd f
attr_name_same (p ∷ n) f = ap bytes (attr_row_same (p ∷ n) f end)

pub tag_fits : (n : Name) → T (attribute_name_fits n) → T (tag_name_fits n)
unfolding tag_name_fits
tag_fits n f = or_left (attribute_name_fits n) (member_fits n) f

-- 41 alone is no attribute's
pub member_tag : (n : Name) → T (tag_name_fits n) → attribute_name_fits n ≡ not (eqb (name_tag n) 0x41)
unfolding tag_name_fits attribute_name_fits member_fits name_tag choose
member_tag [] f = absurd f
member_tag (part d w ∷ []) f = on (short w) f
  where
    on : (b : Bool) → T (b || false) → b ≡ true
    on true t = refl
    on false t = absurd t
member_tag (part d w ∷ part e v ∷ []) f = on (eqb e 58) refl
  where
    true_of : (b : Bool) → T b → b ≡ true
    true_of true t = refl
    true_of false t = absurd t

    on : (b : Bool) → eqb e 58 ≡ b → ((b && short w) && short v) ≡ not (eqb (choose b 0x42 0x41) 0x41)
    on true h = true_of (short w && short v) (subst (λ (c : Bool). T (c && short w && short v)) h (colon_two d e w v h f))
    on false h = refl
member_tag (part d w ∷ part e v ∷ q ∷ qs) f = on (eqb e 58) refl
  where
    on : (b : Bool) → eqb e 58 ≡ b → false ≡ not (eqb (choose b 0x42 0x41) 0x41)
    on true h = absurd (colon_last d e w v q qs h f)
    on false h = refl
