-- How deep a name's field goes. Main statements: `shallow_name`, `shallow_attr_name`. Assumes nothing.
use Prim.Native.Nat.{ℕ, suc, ◌+◌}
use mathlib.Core.Path.{◌≡◌, refl, sym, ◌∙◌, ap, subst}
use mathlib.Core.Bool.{Bool, true, false, ◌&&◌}
use mathlib.Core.List.{List, [], ◌∷◌}
use native.Mathlib.Omega.{arith}
use native.Mathlib.Numerals.{add-one}
use borrow.Author.Tests.{le-leb}
use lib.Dec.{T, leb, eqb, leb→le}
use Rattle.field.specs.Bytes.{Bytes, pick}
use Rattle.field.specs.Row.{Row, end, field}
use Rattle.page.specs.Page as P
use Rattle.page.specs.Encode.{texts_row, name_row, attr_name_row}
use Rattle.grammar.specs.Signs.{choose}
use Rattle.grammar.specs.Syntax.{part, Name, attribute_name_fits, member_fits, tag_name_fits}
use Rattle.tag_tree.specs.PageTag.{idents, page_name, page_attr_name}
use Rattle.tag_tree.specs.TagAnswer.{shallow}
use Rattle.read_tag.specs.Shapes.{name_tag}
use Rattle.read_tag.specs.Names.{name_depth}
use Rattle.read_tag.proofs.FlagLaws.{and_true}
use Rattle.read_tag.proofs.NameFieldLaws.{tag_fits, attr_row_same}

and_same : (a : Bool) → (a && a) ≡ a
and_same true = refl
and_same false = refl

texts_shallow : (d : ℕ) (w : Bytes) (ws : List Bytes) → shallow d (texts_row 0x40 (w ∷ ws)) ≡ leb d 48
unfolding shallow texts_row
texts_shallow d w [] = and_true (leb d 48)
texts_shallow d w (v ∷ ws) = ap (λ (b : Bool). leb d 48 && b) (texts_shallow d v ws) ∙ and_same (leb d 48)

parts_shallow : (d t : ℕ) (w : Bytes) (ws : List Bytes) (x : Row) → shallow d (field t [] (texts_row 0x40 (w ∷ ws)) x) ≡ (leb (d + 1) 48 && shallow d x)
unfolding shallow
parts_shallow d t w ws x =
    ap (λ (b : Bool). leb d 48 && (b && shallow d x)) (texts_shallow (suc d) w ws) ∙
    on (leb (suc d) 48) refl ∙
    ap (λ (m : ℕ). leb m 48 && shallow d x) (sym (add-one d))
  where
    none : (b : Bool) → (b && false) ≡ false
    none true = refl
    none false = refl

    on : (b : Bool) → leb (suc d) 48 ≡ b → (leb d 48 && (leb (suc d) 48 && shallow d x)) ≡ (leb (suc d) 48 && shallow d x)
    on true e = let l = leb→le (suc d) 48 (subst T (sym e) tt) in ap (λ (b : Bool). b && (leb (suc d) 48 && shallow d x)) (le-leb d 48 (omega arith))
    on false e = ap (λ (b : Bool). leb d 48 && (b && shallow d x)) e ∙ none (leb d 48) ∙ ap (λ (b : Bool). b && shallow d x) (sym e)

-- in front of other fields
pub shallow_name_then : (n : Name) (d : ℕ) (x : Row) → T (tag_name_fits n) → shallow d (name_row (page_name n) x) ≡ (leb (name_depth (name_tag n) d) 48 && shallow d x)
unfolding name_depth name_tag choose page_name name_row tag_name_fits attribute_name_fits member_fits
shallow_name_then [] d x f = absurd f
shallow_name_then (part a w ∷ []) d x f = unfold shallow in refl
shallow_name_then (part a w ∷ part e v ∷ ps) d x f = on (eqb e 58)
  where
    on : (b : Bool) → shallow d (name_row (pick b (P.namespaced w v) (P.member (w ∷ v ∷ idents ps))) x) ≡ (leb (name_depth (choose b 0x42 0x41) d) 48 && shallow d x)
    on true = parts_shallow d 0x42 w (v ∷ []) x
    on false = parts_shallow d 0x41 w (v ∷ idents ps) x

pub shallow_name : (n : Name) (d : ℕ) → T (tag_name_fits n) → shallow d (name_row (page_name n) end) ≡ leb (name_depth (name_tag n) d) 48
unfolding shallow
shallow_name n d f = shallow_name_then n d end f ∙ and_true (leb (name_depth (name_tag n) d) 48)

pub shallow_attr_name : (n : Name) (d : ℕ) → T (attribute_name_fits n) → shallow d (attr_name_row (page_attr_name n) end) ≡ leb (name_depth (name_tag n) d) 48
shallow_attr_name n d f = ap (shallow d) (attr_row_same n f end) ∙ shallow_name n d (tag_fits n f)
