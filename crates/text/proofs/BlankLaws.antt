-- What `all` says of the lines of a text, where each is asked whether the text rule leaves nothing of it. Main statement: `all_lines_blank`.
-- Assumes nothing.
use Rattle.std.specs.Prelude.{Option, Some, None, MatchOption}
use Rattle.std.specs.Iterator.{Yields, YieldsThen}
use Rattle.std.specs.List.{FoldsTo}
use denote.Param.Members.{Mut, Called}
use mathlib.Core.Path.{◌≡◌, refl, sym, ap, ◌∙◌, subst}
use mathlib.Core.Bool.{Bool, true, false, ◌||◌}
use mathlib.Core.List.{List, [], ◌∷◌}
use Prim.Native.Nat.{ℕ, ◌≤◌, ◌<◌}
use lib.Dec.{eqb}
use native.Mathlib.Omega.{arith}
use lib.ListN.{length}
use Rattle.field.specs.Bytes.{Bytes, null?}
use Rattle.text.specs.Lines.{GivesLine}
use Rattle.text.specs.Text.{trimmed, jsx_text_to_str}
use Rattle.text.specs.declared.lines.Lines.{Lines}
use Rattle.text.specs.declared.lines.TextLine.{TextLine}
use Rattle.text.proofs.LineLaws.{line_read, none_read, read_trimmed}
use Rattle.text.proofs.WriteLaws.{empty_is, filled_is}
use Rattle.text.proofs.TextLaws.{Blank, blank_start, blank_step, blank_line, blank_end}

-- as the closure asks: whether the line has no byte without its white space
abbrev pub leaves_nothing : Bool → TextLine → Bool
leaves_nothing last l = eqb (length (trimmed l.has_before (l.has_behind || last) l.text.now)) 0

none_left : (n : ℕ) → true ≡ eqb n 0 → n ≤ 0
none_left n h = omega (arith, empty_is n h refl)

some_left : (n : ℕ) → false ≡ eqb n 0 → 0 < n
some_left n h = omega (arith, filled_is n h refl)

module _ (s : Bytes) (last : Bool) {F : Type 0} (g : Mut F (TextLine × Unit {0}) Bool) (fn : F) (calls : (x : TextLine) (b : Bool) (q : F) → Called g fn (x, tt) b q → (q ≡ fn) × (b ≡ leaves_nothing last x)) where
  asked : (r : Bool) (xs : List TextLine) (o : Option TextLine) (x t u : Lines) (p q : F) → p ≡ fn → x.text.now ≡ s → Blank s last x.place → Yields GivesLine x xs t → GivesLine t o u →
      FoldsTo (λ p x q. Called g p (x, tt) true q) p xs q → MatchOption o (r ≡ true) (λ x. (r ≡ false) × ((h : F) × Called g q (x, tt) false h)) → r ≡ null? (jsx_text_to_str s false last)
  asked r [] None x t u p q e w b y k f m =
      let n = none_read s t.place u.place (sym (ap (λ (z : Lines). z.text.now) y) ∙ w) k.1 in
      m ∙ blank_end s last t.place n (subst (λ (z : Lines). Blank s last z.place) y b)
  asked r [] (Some l) x t u p q e w b y k f m =
      let c = (calls l false m.1.0 (subst (λ (z : F). Called g z (l, tt) false m.1.0) (sym f ∙ e) m.1.1)).1 in
      let d = line_read {l = l} s t.place u.place (sym (ap (λ (z : Lines). z.text.now) y) ∙ w) k.1 in
      m.0 ∙ blank_line s last t.place d.end u.place _ d.cut (read_trimmed last d refl) (subst (λ (z : Lines). Blank s last z.place) y b) (some_left _ c)
  asked r (l ∷ xs) o x t u p q e w b y k f m =
      let c = calls l true f.0 (subst (λ (z : F). Called g z (l, tt) true f.0) e f.1) in
      let d = line_read {l = l} s x.place y.0.place w y.1.1 in
      asked r xs o y.0 t u f.0 q c.0 (y.1.0 ∙ w) (blank_step s last x.place d.end y.0.place _ d.cut (read_trimmed last d refl) b (none_left _ c.1)) y.2 k f.2 m

  pub all_lines_blank : (x u : Lines) (r : Bool) → (x.text.now ≡ s) × (x.place ≡ 0) →
      (xs : List TextLine) × (o : Option TextLine) × (q : F) × YieldsThen GivesLine x xs o u × FoldsTo (λ p x q. Called g p (x, tt) true q) fn xs q × MatchOption o (r ≡ true) (λ x. (r ≡ false) × ((h : F) × Called g q (x, tt) false h)) →
      r ≡ null? (jsx_text_to_str s false last)
  all_lines_blank x u r n d = asked r d.0 d.1 x d.3.0 u fn d.2 refl n.0 (rw n.1 (blank_start s last)) d.3.1 d.3.2 d.4 d.5
