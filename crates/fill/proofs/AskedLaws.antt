-- What is known of an order that is fine: what it asks for, and that without one of them there is no HTML.
-- Main statements: `order_parts`, `filling_parts`, `order_fillings`, `unknown_gaps`, `unknown_none`, `unknown_at`.
-- Assumes nothing.
use mathlib.Core.Path.{◌≡◌, refl, ap, ◌∙◌, subst}
use mathlib.Core.Bool.{Bool, true, false}
use mathlib.Core.Logic.{◌⊎◌, inl, inr, ⊎_elim}
use Prim.Native.Nat.{ℕ, zero, suc, ◌*◌, ◌≤◌, ◌<◌}
use native.Mathlib.Omega.{arith}
use mathlib.Core.List.{List, [], ◌∷◌, ◌++◌}
use lib.Dec.{eqb, leb, leb→le, eqb→eq}
use lib.ListN.{length, take, drop, get_or, length-append, length-take, length-drop}
use borrow.Author.Tests.{ne_eqb, le-leb}
use Rattle.std.specs.List.{Contains}
use Rattle.std.proofs.lemmas.List.Elements.{Contains-append_cases}
use Rattle.std.proofs.Math.Option.{Option, none, some}
use Rattle.field.specs.Bytes.{Bytes}
use Rattle.field.specs.Number.{number_of}
use Rattle.field.specs.Row.{Row, end, loose, field, only_bytes, fields_after, read_by}
use Rattle.field.proofs.Reading.{Opens, next_sizes, along}
use Rattle.refusal.specs.Refusal.{Verdict, Fine, after, unless}
use Rattle.page.specs.Tree.{choose}
use Rattle.page.specs.Check.{check_header, check_text, check_nothing_after}
use Rattle.refusal.specs.declared.Refusal.TheVariants as R
use Rattle.refusal.proofs.Verdicts.{refused, after_fine, unless_fine}
use Rattle.page.proofs.Headers.{header_fine}
use Rattle.page.proofs.Steps.{tested}
use Rattle.fill.specs.Order.{held_in_order, read_order, is_filling, check_fillings, check_order, asked}
use Rattle.fill.specs.Html.{Template, template_of, text_filling, in_turn, fill_gaps, html_of}

-- ---- an order that is fine

pub record OrderParts (t : ℕ) (f : Bytes) (i r : Row) : Type 0 where
  pub tag_is : t ≡ 0x85
  pub number_whole : 4 ≤ length f
  pub fillings_fine : check_fillings 2 i ≡ Fine
  pub alone : r ≡ end

pub nothing_left : (r : Row) → check_nothing_after r ≡ Fine → r ≡ end
unfolding check_nothing_after
nothing_left end e = refl
nothing_left (loose b) e = refused R.Truncated e
nothing_left (field t f i r) e = refused R.Truncated e

pub order_parts : (t : ℕ) (f : Bytes) (i r : Row) → check_order (field t f i r) ≡ Fine → OrderParts t f i r
unfolding check_order
order_parts t f i r e =
    let a = after_fine (check_header (eqb t 0x85) 1) (λ _. after (unless (leb 4 (length f)) R.Misplaced) λ _. after (check_fillings 2 i) λ _. check_nothing_after r) e in
    let b = after_fine (unless (leb 4 (length f)) R.Misplaced) (λ _. after (check_fillings 2 i) λ _. check_nothing_after r) a.1 in
    let c = after_fine (check_fillings 2 i) (λ _. check_nothing_after r) b.1 in
    record {
      tag_is = eqb→eq t 0x85 (header_fine (eqb t 0x85) 1 a.0).0;
      number_whole = leb→le 4 (length f) (unless_fine (leb 4 (length f)) R.Misplaced b.0);
      fillings_fine = c.0;
      alone = nothing_left r c.1;
    }

-- ---- fillings that are fine

pub record FillingParts (d t : ℕ) (f : Bytes) (i r : Row) : Type 0 where
  pub number_whole : t ≡ 0x85 → 4 ≤ length f
  pub inner_fine : t ≡ 0x85 → check_fillings (suc d) i ≡ Fine
  pub rest_fine : check_fillings d r ≡ Fine

abbrev held_check : ℕ → ℕ → Bytes → Row → Verdict
held_check d t f i = choose (eqb t 0x85) (λ _. after (unless (leb 4 (length f)) R.Misplaced) λ _. check_fillings (suc d) i) λ _. check_text f

held_parts : (d t : ℕ) (f : Bytes) (i : Row) → held_check d t f i ≡ Fine → t ≡ 0x85 → (4 ≤ length f) × (check_fillings (suc d) i ≡ Fine)
unfolding choose
held_parts d t f i e k =
    let g : after (unless (leb 4 (length f)) R.Misplaced) (λ _. check_fillings (suc d) i) ≡ Fine = subst (λ (u : ℕ). held_check d u f i ≡ Fine) k e in
    let p = after_fine (unless (leb 4 (length f)) R.Misplaced) (λ _. check_fillings (suc d) i) g in
    (leb→le 4 (length f) (unless_fine (leb 4 (length f)) R.Misplaced p.0), p.1)

pub filling_parts : (d t : ℕ) (f : Bytes) (i r : Row) → check_fillings d (field t f i r) ≡ Fine → FillingParts d t f i r
unfolding check_fillings
filling_parts d t f i r e =
    let a = after_fine (check_header (is_filling t) d) (λ _. after (held_check d t f i) λ _. check_fillings d r) e in
    let b = after_fine (held_check d t f i) (λ _. check_fillings d r) a.1 in
    record {
      number_whole = λ k. (held_parts d t f i b.0 k).0;
      inner_fine = λ k. (held_parts d t f i b.0 k).1;
      rest_fine = b.1;
    }

-- ---- what is asked for

-- what an 85 asks for, and what another field does
pub asked_behind : (t : ℕ) (f : Bytes) (i r : Row) → (t ≡ 0x85 → ⊥) → asked (field t f i r) ≡ asked r
unfolding asked choose
asked_behind t f i r n = rw (ne_eqb t 0x85 n) refl

pub asked_85 : (t : ℕ) (f : Bytes) (i r : Row) → t ≡ 0x85 → asked (field t f i r) ≡ number_of f ∷ (asked i ++ asked r)
unfolding asked choose
asked_85 t f i r k = rw k refl

-- an order is a filling at depth 1
pub order_fillings : (o : Row) → check_order o ≡ Fine → check_fillings 1 o ≡ Fine
unfolding check_order check_fillings check_header choose after
order_fillings end e = refl
order_fillings (loose b) e = e
order_fillings (field t f i r) e =
    let p = order_parts t f i r e in
    rw (p.tag_is, p.alone, le-leb 4 (length f) p.number_whole, p.fillings_fine) refl

-- ---- a number without a record

cons_cases : (y : ℕ) (ys : List ℕ) (x : ℕ) → Contains (y ∷ ys) x → (y ≡ x) ⊎ Contains ys x
cons_cases y ys x c = on c.0 c.1 c.2
  where
    on : (k : ℕ) → k < length (y ∷ ys) → get_or (y ∷ ys) k x ≡ x → (y ≡ x) ⊎ Contains ys x
    on zero l e = inl e
    on (suc k) l e = inr (k, omega arith, e)

turn_none : (s : Bytes) (x : Option Bytes) → in_turn s x none ≡ none
unfolding in_turn
turn_none s none = refl
turn_none s (some x) = refl

none_first : (s : Bytes) (y : Option Bytes) → in_turn s none y ≡ none
unfolding in_turn
none_first s y = refl

-- an 85 is filled by its record
abbrev filled : Row → Option Template → Row → Option Bytes
filled ts x i = elim x [ none ↦ none | some m ↦ fill_gaps ts m.kinds m.strings i ]

-- no HTML of these fillings, whatever the gaps
abbrev Unfilled : Row → Row → Type 0
Unfilled ts x = (ks : Bytes) (ss : List Bytes) → fill_gaps ts ks ss x ≡ none

module _ (ts : Row) (n : ℕ) (u : template_of ts n ≡ none) where
  filled_none : (m : ℕ) (i : Row) → (m ≡ n) ⊎ Unfilled ts i → filled ts (template_of ts m) i ≡ none
  filled_none m i (inl e) = ap (λ (x : ℕ). filled ts (template_of ts x) i) e ∙ ap (λ (x : Option Template). filled ts x i) u
  filled_none m i (inr h) = on (template_of ts m)
    where
      on : (x : Option Template) → filled ts x i ≡ none
      on none = refl
      on (some x) = h x.kinds x.strings

  -- the number of an 85, what it holds, what lies behind it
  abbrev Among : ℕ → Row → Row → Type 0
  Among m i r = Contains (m ∷ (asked i ++ asked r)) n

  among : (A : Type 0) (m : ℕ) (i r : Row) → Among m i r → ((m ≡ n) ⊎ Contains (asked i) n → A) → (Contains (asked r) n → A) → A
  among A m i r c f g = ⊎_elim (λ e. f (inl e)) (λ h. ⊎_elim (λ x. f (inr x)) g (Contains-append_cases (asked i) (asked r) n h)) (cons_cases m (asked i ++ asked r) n c)

  within : (m : ℕ) (i : Row) → (Contains (asked i) n → Unfilled ts i) → (m ≡ n) ⊎ Contains (asked i) n → filled ts (template_of ts m) i ≡ none
  within m i h c = filled_none m i (⊎_elim inl (λ x. inr (h x)) c)

  -- b: an 85 stands there, o: its gap is of kind 2
  gap_none : (b o : Bool) (z : Option Bytes) (s : Bytes) (m : ℕ) (i r : Row) (y : Option Bytes) → Contains (choose b (λ _. m ∷ (asked i ++ asked r)) λ _. asked r) n → (Contains (asked i) n → Unfilled ts i) → (Contains (asked r) n → y ≡ none) →
      in_turn s (choose b (λ _. choose o (λ _. filled ts (template_of ts m) i) λ _. none) λ _. z) y ≡ none
  unfolding choose
  gap_none false o z s m i r y c hi hr = rw (hr c) (turn_none s z)
  gap_none true false z s m i r y c hi hr = none_first s y
  gap_none true true z s m i r y c hi hr =
      among (in_turn s (filled ts (template_of ts m) i) y ≡ none) m i r c (λ x. ap (λ (v : Option Bytes). in_turn s v y) (within m i hi x) ∙ none_first s y) (λ x. ap (in_turn s (filled ts (template_of ts m) i)) (hr x) ∙ turn_none s (filled ts (template_of ts m) i))

-- of fillings, whatever the gaps
pub unknown_gaps : (ts : Row) (n : ℕ) → template_of ts n ≡ none → (x : Row) → Contains (asked x) n → (ks : Bytes) (ss : List Bytes) → fill_gaps ts ks ss x ≡ none
unfolding asked fill_gaps
unknown_gaps ts n u end c ks ss = absurd (omega (arith, c.1))
unknown_gaps ts n u (loose b) c ks ss = refl
unknown_gaps ts n u (field t f i r) c [] ss = refl
unknown_gaps ts n u (field t f i r) c (k ∷ ks) [] = refl
unknown_gaps ts n u (field t f i r) c (k ∷ ks) (s ∷ ss) =
    gap_none ts n u (eqb t 0x85) (eqb k 2) (text_filling k t f) s (number_of f) i r (fill_gaps ts ks ss r) c (λ h. unknown_gaps ts n u i h) (λ h. unknown_gaps ts n u r h ks ss)

nothing_asked : (A : Type 0) (r : Row) (n : ℕ) → r ≡ end → Contains (asked r) n → A
unfolding asked
nothing_asked A r n e c = let d : Contains (asked end) n = subst (λ (x : Row). Contains (asked x) n) e c in absurd (omega (arith, d.1))

-- of an order
pub unknown_none : (ts o : Row) → check_order o ≡ Fine → (n : ℕ) → Contains (asked o) n → template_of ts n ≡ none → html_of ts o ≡ none
unfolding html_of
unknown_none ts end e n c u = refl
unknown_none ts (loose b) e n c u = refl
unknown_none ts (field t f i r) e n c u =
    let p = order_parts t f i r e in
    among ts n u (filled ts (template_of ts (number_of f)) i ≡ none) (number_of f) i r (subst (λ (x : List ℕ). Contains x n) (asked_85 t f i r p.tag_is) c) (within ts n u (number_of f) i (λ h. unknown_gaps ts n u i h)) (nothing_asked (filled ts (template_of ts (number_of f)) i ≡ none) r n p.alone)
