-- The names of a row's pages, as they are walked. Main statements: `names_are`, `differ_are`. Assumes nothing.
use Prim.Native.Nat.{ℕ, zero, suc, ◌+◌}
use mathlib.Core.Path.{◌≡◌, refl, sym, ap, ap₂, ◌∙◌}
use mathlib.Core.Bool.{Bool, true, false, ◌&&◌, ◌||◌, not}
use mathlib.Core.List.{List, [], ◌∷◌, map}
use mathlib.Core.Logic.{◌⊎◌, inl, inr}
use native.Mathlib.Omega.{arith}
use lib.Dec.{eqb}
use lib.ListN.{length, drop}
use Rattle.std.proofs.lemmas.Bool.{cases_Bool}
use borrow.Author.Tests.{eqb-true, eqb-false}
use Rattle.field.specs.Bytes.{Bytes, pick}
use Rattle.catalogue.proofs.Exact.{no_pages, Added, added}
use Rattle.catalogue.specs.Page.{Page}
use Rattle.catalogue.specs.Catalogue.{Reading, no_row, pages, add, all_zero, four, behind_body, read_row, present, names_differ}
use Rattle.catalogue_calls.specs.Standing.{housed, framed, names_from, names_in, among, all_differ}
use Rattle.catalogue_calls.proofs.PageLaws.{page_of}
use Rattle.catalogue_calls.proofs.Steps.{read_behind, read_refused, read_end}

none_left : (s : Bytes) (ps : List Page) → pick (all_zero s) (pages []) no_row ≡ pages ps → [] ≡ ps
none_left s ps e = on (all_zero s) e
  where
    on : (b : Bool) → pick b (pages []) no_row ≡ pages ps → [] ≡ ps
    on true e = cc
    on false e = no_pages ps e

abbrev names : List Page → List ℕ
names ps = map (λ (p : Page). p.name) ps

-- what is walked of a row that reads as pages are their names
pub names_are : (k n : ℕ) (s : Bytes) (ps : List Page) → read_row housed k n s ≡ pages ps → names_from k s ≡ names ps
unfolding read_row names_from
names_are zero n s ps e = no_pages ps e
names_are (suc k) n s ps e = on (cases_Bool (framed s)) (names_are k)
  where
    p : Page
    p = page_of n s

    r : Reading
    r = read_row housed k (n + housed.forms p.body) (behind_body (drop 6 s))

    Before : Type 0
    Before = (m : ℕ) (d : Bytes) (qs : List Page) → read_row housed k m d ≡ pages qs → names_from k d ≡ names qs

    Goal : Type 0
    Goal = pick (framed s) (four (drop 1 s) ∷ names_from k (behind_body (drop 6 s))) [] ≡ names ps

    one : framed s ≡ true → add p r ≡ pages ps → Before → Goal
    one f a ih =
        let d = added p r ps a in
        let w : names_from k (behind_body (drop 6 s)) ≡ names d.rest = ih (n + housed.forms p.body) (behind_body (drop 6 s)) d.rest d.read_is in
        ap (λ (b : Bool). pick b (four (drop 1 s) ∷ names_from k (behind_body (drop 6 s))) []) f ∙ ap (λ (xs : List ℕ). four (drop 1 s) ∷ xs) w ∙ ap names d.all_is

    on : (framed s ≡ true) ⊎ (framed s ≡ false) → Before → Goal
    on (inl f) ih = judged (cases_Bool (eqb (housed.judge p.body) 0))
      where
        judged : (eqb (housed.judge p.body) 0 ≡ true) ⊎ (eqb (housed.judge p.body) 0 ≡ false) → Goal
        judged (inl t) = one f (sym (read_behind k n s f (eqb-true (housed.judge p.body) 0 t)) ∙ e) ih
        judged (inr t) = no_pages ps (sym (read_refused k n s f (eqb-false (housed.judge p.body) 0 t)) ∙ e)
    on (inr f) ih =
        let h : [] ≡ ps = none_left s ps (sym (read_end k n s f) ∙ e) in
        ap (λ (b : Bool). pick b (four (drop 1 s) ∷ names_from k (behind_body (drop 6 s))) []) f ∙ ap names h

-- ---- none stands twice

among_names : (n : ℕ) (ps : List Page) → among n (names ps) ≡ present n ps
unfolding among present
among_names n [] = refl
among_names n (p ∷ ps) = on (eqb n p.name) (among_names n ps)
  where
    on : (b : Bool) → among n (names ps) ≡ present n ps → pick b true (among n (names ps)) ≡ (b || present n ps)
    on true e = refl
    on false e = e

names_alike : (ps : List Page) → all_differ (names ps) ≡ names_differ ps
unfolding all_differ names_differ
names_alike [] = refl
names_alike (p ∷ ps) = ap₂ (λ (x y : Bool). not x && y) (among_names p.name ps) (names_alike ps)

-- of bytes that read as these pages
pub differ_are : (b : Bytes) (ps : List Page) → read_row housed (suc (length b)) 0 b ≡ pages ps → all_differ (names_in b) ≡ names_differ ps
unfolding names_in
differ_are b ps e = ap all_differ (names_are (suc (length b)) 0 b ps e) ∙ names_alike ps
