-- Lists of pages: a page behind them, one taken out, and the bytes of their rows. Main statements: `row_append`, `take_row`, `split_at_name`.
-- Assumes nothing.
use Prim.Native.Nat.{ℕ, ◌+◌}
use mathlib.Core.Path.{◌≡◌, refl, sym, ap, ◌∙◌}
use mathlib.Core.Bool.{Bool, true, false, ◌||◌, not, true≢false}
use mathlib.Core.List.{List, [], ◌∷◌, ◌++◌, append_assoc}
use mathlib.Core.Logic.{◌⊎◌, inl, inr}
use native.Mathlib.Omega.{arith}
use lib.Dec.{eqb}
use lib.ListN.{length, take}
use lib.Seq.{take_at}
use Rattle.std.proofs.lemmas.Bool.{and_from, not-true, not_from_false, or_parts, or_from, cases_Bool}
use borrow.Author.Tests.{eqb-true}
use Rattle.field.specs.Bytes.{Bytes, pick}
use Rattle.catalogue.specs.Page.{Page, Given}
use Rattle.catalogue.specs.Catalogue.{page_then, forms_of, row, size, row_size, present, names_differ, AllSound, none_left, one_sound}
use Rattle.catalogue.specs.Shares.{used}
use Rattle.catalogue.specs.Calls.{without, before}
use Rattle.catalogue.proofs.Tests.{eq_flip, and_left, and_right}
use Rattle.catalogue.proofs.Exact.{length_row}

-- ---- rows

pub row_append : (G : Given) (n : ℕ) (ps qs : List Page) (r : Bytes) → row G.format n (ps ++ qs) r ≡ row G.format n ps (row G.format (n + forms_of G.format ps) qs r)
unfolding row forms_of
row_append G n [] qs r = let e : n ≡ n + 0 = omega arith in ap (λ (k : ℕ). row G.format k qs r) e
row_append G n (p ∷ ps) qs r =
    let e : n + G.format.forms p.body + forms_of G.format ps ≡ n + (G.format.forms p.body + forms_of G.format ps) = omega arith in
    ap (page_then G.format n p) (row_append G (n + G.format.forms p.body) ps qs r ∙ ap (λ (k : ℕ). row G.format (n + G.format.forms p.body) ps (row G.format k qs r)) e)

pub page_front : (G : Given) (n : ℕ) (p : Page) (q r : Bytes) → page_then G.format n p (q ++ r) ≡ page_then G.format n p q ++ r
unfolding page_then
page_front G n p q r = simp append_assoc

pub row_front : (G : Given) (n : ℕ) (ps : List Page) (r : Bytes) → row G.format n ps r ≡ row G.format n ps [] ++ r
unfolding row
row_front G n [] r = refl
row_front G n (p ∷ ps) r = ap (page_then G.format n p) (row_front G (n + G.format.forms p.body) ps r) ∙ page_front G n p (row G.format (n + G.format.forms p.body) ps []) r

-- the bytes of a row's pages, whatever follows them
pub take_row : (G : Given) (n : ℕ) (ps : List Page) (r : Bytes) → take (row_size G.format ps) (row G.format n ps r) ≡ row G.format n ps []
take_row G n ps r =
    let l : length (row G.format n ps []) ≡ row_size G.format ps = length_row G n ps [] ∙ omega arith in
    ap (take (row_size G.format ps)) (row_front G n ps r) ∙ take_at (row G.format n ps []) r (row_size G.format ps) l

-- ---- joined lists

pub size_append : (G : Given) (ps qs : List Page) → row_size G.format (ps ++ qs) ≡ row_size G.format ps + row_size G.format qs
unfolding row_size
size_append G [] qs = omega arith
size_append G (p ∷ ps) qs = omega (arith, size_append G ps qs)

pub used_append : (G : Given) (h : ℕ) (ps qs : List Page) → used G.format h (ps ++ qs) ≡ used G.format h ps + used G.format h qs
unfolding used
used_append G h [] qs = omega arith
used_append G h (p ∷ ps) qs = omega (arith, used_append G h ps qs)

pub sound_append : (G : Given) (ps qs : List Page) → AllSound G.format ps → AllSound G.format qs → AllSound G.format (ps ++ qs)
sound_append G [] qs none_left b = b
sound_append G (p ∷ ps) qs (one_sound s a) b = one_sound s (sound_append G ps qs a b)

pub one_size : (G : Given) (p : Page) → row_size G.format (p ∷ []) ≡ size G.format p
unfolding row_size
one_size G p = omega arith

-- ---- a page more

pub present_last : (x : ℕ) (ps : List Page) (p : Page) → present x ps ≡ false → eqb x p.name ≡ false → present x (ps ++ (p ∷ [])) ≡ false
unfolding present
present_last x [] p e f = or_from (eqb x p.name) false f refl
present_last x (q ∷ ps) p e f =
    let o = or_parts (eqb x q.name) (present x ps) e in
    or_from (eqb x q.name) (present x (ps ++ (p ∷ []))) o.0 (present_last x ps p o.1 f)

pub differ_last : (ps : List Page) (p : Page) → names_differ ps ≡ true → present p.name ps ≡ false → names_differ (ps ++ (p ∷ [])) ≡ true
unfolding names_differ present
differ_last [] p e f = refl
differ_last (q ∷ ps) p e f =
    let o = or_parts (eqb p.name q.name) (present p.name ps) f in
    let m : present q.name ps ≡ false = not-true (present q.name ps) (and_left (not (present q.name ps)) (names_differ ps) e) in
    and_from (not (present q.name (ps ++ (p ∷ [])))) (names_differ (ps ++ (p ∷ [])))
    (not_from_false (present q.name (ps ++ (p ∷ []))) (present_last q.name ps p m (eq_flip q.name p.name ∙ o.0)))
    (differ_last ps p (and_right (not (present q.name ps)) (names_differ ps) e) o.1)

-- ---- a page less

pub record Split (x : ℕ) (ps : List Page) : Type 0 where
  pub gone : Page
  pub later : List Page
  pub named : gone.name ≡ x
  pub all_is : ps ≡ before x ps ++ (gone ∷ later)
  pub rest_is : without x ps ≡ before x ps ++ later

pub split_at_name : (x : ℕ) (ps : List Page) → present x ps ≡ true → Split x ps
unfolding present before without
split_at_name x [] e = absurd (true≢false (sym e))
split_at_name x (p ∷ ps) e = on (cases_Bool (eqb x p.name)) (split_at_name x ps)
  where
    on : (eqb x p.name ≡ true) ⊎ (eqb x p.name ≡ false) → (present x ps ≡ true → Split x ps) → Split x (p ∷ ps)
    on (inl t) ih = record {
      gone = p;
      later = ps;
      named = sym (eqb-true x p.name t);
      all_is = ap (λ (q : Bool). pick q [] (p ∷ before x ps) ++ (p ∷ ps)) (sym t);
      rest_is = ap (λ (q : Bool). pick q ps (p ∷ without x ps)) t ∙ ap (λ (q : Bool). pick q [] (p ∷ before x ps) ++ ps) (sym t);
    }
    on (inr t) ih =
        let d : Split x ps = ih (sym (ap (λ (q : Bool). q || present x ps) t) ∙ e) in
        let b : before x (p ∷ ps) ≡ p ∷ before x ps = ap (λ (q : Bool). pick q [] (p ∷ before x ps)) t in
        record {
          gone = d.gone;
          later = d.later;
          named = d.named;
          all_is = ap (λ (l : List Page). p ∷ l) d.all_is ∙ ap (λ (l : List Page). l ++ (d.gone ∷ d.later)) (sym b);
          rest_is = ap (λ (q : Bool). pick q ps (p ∷ without x ps)) t ∙ ap (λ (l : List Page). p ∷ l) d.rest_is ∙ ap (λ (l : List Page). l ++ d.later) (sym b);
        }

present_without : (x y : ℕ) (ps : List Page) → present y ps ≡ false → present y (without x ps) ≡ false
unfolding present without
present_without x y [] e = refl
present_without x y (p ∷ ps) e = on (eqb x p.name) (present_without x y ps)
  where
    o : (eqb y p.name ≡ false) × (present y ps ≡ false)
    o = or_parts (eqb y p.name) (present y ps) e

    on : (q : Bool) → (present y ps ≡ false → present y (without x ps) ≡ false) → present y (pick q ps (p ∷ without x ps)) ≡ false
    on true ih = o.1
    on false ih = or_from (eqb y p.name) (present y (without x ps)) o.0 (ih o.1)

pub differ_without : (x : ℕ) (ps : List Page) → names_differ ps ≡ true → names_differ (without x ps) ≡ true
unfolding names_differ without
differ_without x [] e = refl
differ_without x (p ∷ ps) e = on (eqb x p.name) (differ_without x ps)
  where
    n : present p.name ps ≡ false
    n = not-true (present p.name ps) (and_left (not (present p.name ps)) (names_differ ps) e)

    d : names_differ ps ≡ true
    d = and_right (not (present p.name ps)) (names_differ ps) e

    on : (q : Bool) → (names_differ ps ≡ true → names_differ (without x ps) ≡ true) → names_differ (pick q ps (p ∷ without x ps)) ≡ true
    on true ih = d
    on false ih = and_from (not (present p.name (without x ps))) (names_differ (without x ps)) (not_from_false (present p.name (without x ps)) (present_without x p.name ps n)) (ih d)

pub sound_without : (G : Given) (x : ℕ) (ps : List Page) → AllSound G.format ps → AllSound G.format (without x ps)
unfolding without
sound_without G x [] none_left = none_left
sound_without G x (p ∷ ps) (one_sound s a) = on (eqb x p.name) (sound_without G x ps a)
  where
    on : (q : Bool) → AllSound G.format (without x ps) → AllSound G.format (pick q ps (p ∷ without x ps))
    on true ih = a
    on false ih = one_sound s ih
