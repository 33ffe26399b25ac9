-- What `any` finds among the fields of a row, where what is asked of the row is told field by field. Main statement: `any_field`. Assumes nothing.
use Rattle.std.specs.Prelude.{Option, Some, None, MatchOption}
use Rattle.std.specs.Iterator.{Yields, YieldsThen}
use Rattle.std.specs.List.{FoldsTo}
use denote.Param.Members.{Mut, Called}
use mathlib.Core.Path.{◌≡◌, refl, sym, ap, ◌∙◌, subst}
use mathlib.Core.Bool.{Bool, true, false, ◌||◌}
use mathlib.Core.List.{List, [], ◌∷◌}
use Rattle.field.specs.Bytes.{Bytes}
use Rattle.field.specs.Row.{read, Ended}
use Rattle.field.specs.Fields.{GivesField, IsFront}
use Rattle.field.specs.declared.reader.Field.{Field}
use Rattle.field.specs.declared.reader.Fields.{Fields}

-- P is asked of a row: test of its fields, one of which gives it
module _ (P : Bytes → Bool) (test : Field → Bool) (end : (s : Bytes) → Ended (read s) → false ≡ P s) (front : (s : Bytes) (f : Field) (r : Bytes) → IsFront s f.tag f.body.now r → P s ≡ (test f || P r)) where
  module _ {F : Type 0} (g : Mut F (Field × Unit {0}) Bool) (fn : F) (calls : (x : Field) (b : Bool) (q : F) → Called g fn (x, tt) b q → (q ≡ fn) × (b ≡ test x)) where
    found : (r : Bool) (xs : List Field) (o : Option Field) (s t u : Fields) (p q : F) → p ≡ fn → Yields GivesField s xs t → GivesField t o u →
        FoldsTo (λ p x q. Called g p (x, tt) false q) p xs q → MatchOption o (r ≡ false) (λ x. (r ≡ true) × ((h : F) × Called g q (x, tt) true h)) → r ≡ P s.0.now
    found r [] None s t u p q e y k f m = m ∙ subst (λ (x : Fields). false ≡ P x.0.now) (sym y) (end t.0.now k.ended)
    found r [] (Some x) s t u p q e y k f m =
        let c = (calls x true m.1.0 (subst (λ (z : F). Called g z (x, tt) true m.1.0) (sym f ∙ e) m.1.1)).1 in
        m.0 ∙ subst (λ (z : Fields). true ≡ P z.0.now) (sym y) (sym (front t.0.now x u.0.now k ∙ ap (λ (b : Bool). b || P u.0.now) (sym c)))
    found r (x ∷ xs) o s t u p q e y k f m =
        let c = calls x false f.0 (subst (λ (z : F). Called g z (x, tt) false f.0) e f.1) in
        found r xs o y.0 t u f.0 q c.0 y.2 k f.2 m ∙ sym (front s.0.now x y.0.0.now y.1 ∙ ap (λ (b : Bool). b || P y.0.0.now) (sym c.1))

    pub any_field : (s u : Fields) (r : Bool) →
        (xs : List Field) × (o : Option Field) × (q : F) × YieldsThen GivesField s xs o u × FoldsTo (λ p x q. Called g p (x, tt) false q) fn xs q × MatchOption o (r ≡ false) (λ x. (r ≡ true) × ((h : F) × Called g q (x, tt) true h)) →
        r ≡ P s.0.now
    any_field s u r d = found r d.0 d.1 s d.3.0 u fn d.2 refl d.3.1 d.3.2 d.4 d.5
