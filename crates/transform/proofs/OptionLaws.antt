-- Looking for the first field of options with a tag: what is passed over changes nothing of what is looked for.
-- Main statements: `first_found`, `body_found`. Assumes nothing.
use Rattle.std.specs.Prelude.{Option, Some, None, MatchOption, IfSome, IsSomeAnd}
use Rattle.std.specs.Iterator.{Yields, YieldsThen}
use Rattle.std.specs.List.{FoldsTo}
use Rattle.std.specs.Fn.{CalledAt}
use denote.Param.Members.{Mut}
use denote.Ref.{Bor}
use mathlib.Core.Path.{◌≡◌, refl, sym, ◌∙◌, subst}
use mathlib.Core.Bool.{Bool, true, false}
use mathlib.Core.List.{List, [], ◌∷◌}
use Prim.Native.Nat.{ℕ, ◌≤◌}
use native.Mathlib.Omega.{arith}
use native.Mathlib.Nat.{le_refl}
use lib.Dec.{eqb}
use lib.ListN.{length}
use borrow.Author.Tests.{eqb-true, eqb-false}
use Rattle.field.specs.Bytes.{Bytes}
use Rattle.field.specs.Row.{read, Ended}
use Rattle.field.specs.Front.{tag_of_front, body_of, behind_of}
use Rattle.field.specs.Fields.{GivesField}
use Rattle.field.specs.declared.reader.Field.{Field}
use Rattle.field.specs.declared.reader.Fields.{Fields}
use Rattle.field.proofs.FrontLaws.{body_less, behind_less}
use Rattle.page.specs.Tree.{listed_in, source_in, works_sums}
use Rattle.transform.specs.Options.{LacksTag, HasTag}
use Rattle.transform.proofs.ExportLaws.{listed_none, listed_here, listed_past, source_none, source_here, source_past, sums_none, sums_here, sums_past}

-- s is what is left of the options behind fields with other tags
record Past (tag : ℕ) (options s : Bytes) : Type 0 where
  pub names : listed_in tag (read s) ≡ listed_in tag (read options)
  pub source : tag ≡ 0x04 → source_in (read s) ≡ source_in (read options)
  pub sums : tag ≡ 0x05 → works_sums (read s) ≡ works_sums (read options)
  pub short : length s ≤ length options

past_none : (tag : ℕ) (o : Bytes) → Past tag o o
past_none tag o = record { names = refl; source = λ _. refl; sums = λ _. refl; short = le_refl _ }

module _ (tag : ℕ) (o s : Bytes) (p : Past tag o s) where
  lacks : Ended (read s) → LacksTag tag o
  lacks i = record {
    no_names = listed_none _ tag i ∙ p.names;
    no_source = λ e. source_none _ i ∙ p.source e;
    no_sums = λ e. sums_none _ i ∙ p.sums e;
  }

  module _ (t : ℕ) (e : t ≡ tag_of_front s) (h : t ≡ 256 → ⊥) where
    has : t ≡ tag → {b : Bytes} → b ≡ body_of s → HasTag tag o b
    has k v = record {
      names = λ q. listed_here _ _ e tag h k q v ∙ p.names;
      source = λ z. source_here _ _ e (k ∙ z) v ∙ p.source z;
      sums = λ z. sums_here _ _ e (k ∙ z) ∙ p.sums z;
      short = omega (arith, body_less _ _ e h v, p.short);
    }

    past_next : (t ≡ tag → ⊥) → {r : Bytes} → r ≡ behind_of s → Past tag o r
    past_next n v = record {
      names = listed_past _ _ e tag h n v ∙ p.names;
      source = λ z. source_past _ _ e h (λ k. n (k ∙ sym z)) v ∙ p.source z;
      sums = λ z. sums_past _ _ e h (λ k. n (k ∙ sym z)) v ∙ p.sums z;
      short = omega (arith, behind_less _ _ e h v, p.short);
    }

-- ---- what `find` gives: the first field that has the tag

abbrev First : ℕ → Bytes → Option Field → Type 0
First tag o r = MatchOption r (LacksTag tag o) (λ f. HasTag tag o f.body.now)

module _ (tag : ℕ) (o : Bytes) {F : Type 0} (g : Mut F (Bor Field × Unit {0}) Bool) (fn : F) (calls : (x : Field) (b : Bool) (q : F) → CalledAt g fn x b q → (q ≡ fn) × (b ≡ eqb x.tag tag)) where
  found : (r : Option Field) (xs : List Field) (s t u : Fields) (p q : F) → Past tag o s.0.now → p ≡ fn → Yields GivesField s xs t → GivesField t r u →
      FoldsTo (λ p x q. CalledAt g p x false q) p xs q → IfSome r (λ x. (h : F) × CalledAt g q x true h) → First tag o r
  found None [] s t u p q w e y k f m = lacks tag o t.0.now (subst (λ (x : Fields). Past tag o x.0.now) y w) k.ended
  found (Some x) [] s t u p q w e y k f m =
      let c = (calls x true m.0 (subst (λ (z : F). CalledAt g z x true m.0) (sym f ∙ e) m.1)).1 in
      has tag o t.0.now (subst (λ (x : Fields). Past tag o x.0.now) y w) x.tag k.tag_is (λ z. omega (arith, k.tag_below, z)) (eqb-true x.tag tag (sym c)) k.body_is
  found r (x ∷ xs) s t u p q w e y k f m =
      let c = calls x false f.0 (subst (λ (z : F). CalledAt g z x false f.0) e f.1) in
      found r xs y.0 t u f.0 q (past_next tag o s.0.now w x.tag y.1.tag_is (λ z. omega (arith, y.1.tag_below, z)) (eqb-false x.tag tag (sym c.1)) y.1.behind_is) c.0 y.2 k f.2 m

  pub first_found : (s u : Fields) (r : Option Field) → s.0.now ≡ o →
      (xs : List Field) × (q : F) × YieldsThen GivesField s xs r u × FoldsTo (λ p x q. CalledAt g p x false q) fn xs q × IfSome r (λ x. (h : F) × CalledAt g q x true h) → First tag o r
  first_found s u r h d = found r d.0 s d.2.0 u fn d.1 (subst (Past tag o) (sym h) (past_none tag o)) refl d.2.1 d.2.2 d.3 d.4

-- and `map` takes its body
pub body_found : {Q : Field → Bor Bytes → Type 0} → ((x : Field) (y : Bor Bytes) → Q x y → y ≡ x.body) → (tag : ℕ) (o : Bytes) (r : Option Field) (m : Option (Bor Bytes)) → First tag o r →
    MatchOption r (m ≡ None) (λ x. IsSomeAnd m (Q x)) → MatchOption m (LacksTag tag o) (λ b. HasTag tag o b.now)
body_found told tag o None m f e = subst (λ (m : Option (Bor Bytes)). MatchOption m (LacksTag tag o) (λ b. HasTag tag o b.now)) (sym e) f
body_found told tag o (Some x) None f e = absurd e
body_found told tag o (Some x) (Some y) f e = subst (λ (b : Bor Bytes). HasTag tag o b.now) (sym (told x y e)) f
