-- The walk over a catalogue's pages. Main statements: `none_walked`, `walked_on`, `walk_refused`, `walk_ended`. Assumes nothing.
use Prim.Native.Nat.{ℕ, suc, ◌+◌, ◌-◌, ◌≤◌, ◌<◌}
use mathlib.Core.Path.{◌≡◌, refl, sym, ap, ap₂, ◌∙◌, subst}
use mathlib.Core.Bool.{Bool, true, false}
use mathlib.Core.List.{List, [], ◌∷◌, ◌++◌}
use mathlib.Core.Logic.{◌⊎◌, inl, inr}
use native.Mathlib.Omega.{arith}
use lib.Dec.{leb}
use lib.ListN.{length, drop}
use Rattle.std.specs.Prelude.{Option, Some, None, Result, Ok, Err}
use Rattle.std.specs.Result.{result_ok}
use Rattle.std.proofs.lemmas.Bool.{cases_Bool}
use borrow.Author.Tests.{le-leb, leb-true}
use Rattle.field.specs.Bytes.{Bytes, AllBytes, pick}
use Rattle.field.proofs.NumberLaws.{all_take, all_drop}
use Rattle.catalogue.specs.Page.{Body, Page, IsBytes}
use Rattle.catalogue.specs.Catalogue.{most_bytes, Reading, no_row, pages, add, all_zero, four, body_in, read_row, size, row_size, forms_of, no_name_twice, read_catalogue}
use Rattle.catalogue.specs.Judged.{project}
use Rattle.catalogue.proofs.Numbered.{forms_few}
use Rattle.catalogue.proofs.Rows.{down_templates, down_page_out}
use Rattle.catalogue_calls.specs.Standing.{housed, framed, names_in, all_differ, IsPage}
use Rattle.catalogue_calls.specs.Judges.{Judges}
use Rattle.catalogue_calls.specs.Reads.{Holding}
use Rattle.catalogue_calls.specs.declared.answer.Unkept.{Unkept}
use Rattle.catalogue_calls.proofs.PageLaws.{page_of}
use Rattle.catalogue_calls.proofs.Steps.{read_behind, read_refused, read_end, forms_down}
use Rattle.catalogue_calls.proofs.NamesLaws.{differ_are}

-- ---- pages in front of what is read

pub prepended : List Page → Reading → Reading
prepended [] o = o
prepended (p ∷ ps) o = add p (prepended ps o)

prepended_row : (ps : List Page) → prepended ps no_row ≡ no_row
unfolding prepended add
prepended_row [] = refl
prepended_row (p ∷ ps) = ap (add p) (prepended_row ps)

prepended_pages : (ps : List Page) → prepended ps (pages []) ≡ pages ps
unfolding prepended add
prepended_pages [] = refl
prepended_pages (p ∷ ps) = ap (add p) (prepended_pages ps)

prepended_last : (ps : List Page) (p : Page) (o : Reading) → prepended ps (add p o) ≡ prepended (ps ++ (p ∷ [])) o
unfolding prepended
prepended_last [] p o = refl
prepended_last (q ∷ ps) p o = ap (add q) (prepended_last ps p o)

size_last : (ps : List Page) (p : Page) → row_size housed (ps ++ (p ∷ [])) ≡ row_size housed ps + size housed p
unfolding row_size
size_last [] p = omega arith
size_last (q ∷ ps) p = omega (arith, size_last ps p)

forms_last : (ps : List Page) (p : Page) → forms_of housed (ps ++ (p ∷ [])) ≡ forms_of housed ps + housed.forms p.body
unfolding forms_of
forms_last [] p = omega arith
forms_last (q ∷ ps) p = omega (arith, forms_last ps p)

length_last : (ps : List Page) (p : Page) → length (ps ++ (p ∷ [])) ≡ length ps + 1
length_last [] p = omega arith
length_last (q ∷ ps) p = omega (arith, length_last ps p)

-- ---- what the judge answers

abbrev pub Refuses : Body → ℕ → Type 0
Refuses x m = housed.judge (housed.down m x) ≡ 0 → ⊥

module _ (x : Body) (m : ℕ) {o : Option ℕ} where
  pub judged_fine : {n : ℕ} (r : Result ℕ Unkept) → Judges x m r → o ≡ result_ok r → o ≡ Some n → Judges x m (Ok n)
  judged_fine {n} (Ok k) j e f = let g : k ≡ n = cc in subst (λ (i : ℕ). Judges x m (Ok i)) g j
  judged_fine (Err u) j e f = absurd (let z : ◌≡◌ {A = ℕ} 0 1 = cc in omega arith)

  pub judged_not : (r : Result ℕ Unkept) → Judges x m r → o ≡ result_ok r → o ≡ None → Refuses x m
  judged_not (Ok k) j e f = absurd (let z : ◌≡◌ {A = ℕ} 0 1 = cc in omega arith)
  judged_not (Err u) j e f = λ z. j.1 (sym j.0 ∙ z)

-- ---- the walk

-- so many pages are walked over, with so many templates, and the others stand in r
pub record Walked (b r : Bytes) (count forms : ℕ) : Type 0 where
  pub passed : List Page
  pub reads : (k j : ℕ) → j ≡ k + count → read_row housed j 0 b ≡ prepended passed (read_row housed k forms r)
  pub of_bytes : AllBytes r
  pub size_is : row_size housed passed + length r ≡ length b
  pub count_is : count ≡ length passed
  pub forms_is : forms ≡ forms_of housed passed
  pub few : count + forms + length r ≤ length b

pub none_walked : (b : Bytes) → AllBytes b → Walked b b 0 0
unfolding prepended row_size forms_of
none_walked b a = record {
  passed = [];
  reads = λ k j e. let f : j ≡ k = omega arith in ap (λ (i : ℕ). read_row housed i 0 b) f;
  of_bytes = a;
  size_is = omega arith;
  count_is = refl;
  forms_is = refl;
  few = omega arith;
}

-- ---- one page more

module _ {s : Bytes} {name house : ℕ} {t p r : Bytes} (a : AllBytes s) (w : IsPage s name house t p r) where
  abbrev parts : Body
  parts = record { templates = t; page_out = p }

  parts_are : parts ≡ body_in (drop 6 s)
  parts_are = λ i. record { templates = w.templates_is i; page_out = w.page_out_is i }

  here_bytes : AllBytes (drop 6 s)
  here_bytes = all_drop 6 s a

  behind_bytes : AllBytes (drop 4 (drop 4 (drop 6 s)))
  behind_bytes = all_drop 4 (drop 4 (drop 6 s)) (all_drop 4 (drop 6 s) here_bytes)

  parts_bytes : IsBytes parts
  parts_bytes = (
    subst AllBytes (sym w.templates_is) (all_take (four (drop 6 s)) (drop 4 (drop 4 (drop 6 s))) behind_bytes),
    subst AllBytes (sym w.page_out_is) (all_take (four (drop 4 (drop 6 s))) (drop (four (drop 6 s)) (drop 4 (drop 4 (drop 6 s)))) (all_drop (four (drop 6 s)) (drop 4 (drop 4 (drop 6 s))) behind_bytes)),
  )

  rest_bytes : AllBytes r
  rest_bytes = subst AllBytes (sym w.behind_is) (all_drop (four (drop 4 (drop 6 s))) (drop (four (drop 6 s)) (drop 4 (drop 4 (drop 6 s)))) (all_drop (four (drop 6 s)) (drop 4 (drop 4 (drop 6 s))) behind_bytes))

  body_here : (m : ℕ) → housed.down m parts ≡ (page_of m s).body
  body_here m = ap (housed.down m) parts_are

  size_here : (m : ℕ) → size housed (page_of m s) + length r ≡ length s
  unfolding size project
  size_here m =
      let e : length (housed.down m (body_in (drop 6 s))).templates ≡ length t = down_templates m (body_in (drop 6 s)) ∙ ap length (sym w.templates_is) in
      let f : length (housed.down m (body_in (drop 6 s))).page_out ≡ length p = down_page_out m (body_in (drop 6 s)) ∙ ap length (sym w.page_out_is) in
      omega (arith, w.sizes)

  few_forms : housed.forms parts ≤ length t
  unfolding project
  few_forms = forms_few parts

  module _ (m n : ℕ) (j : Judges parts m (Ok n)) where
    judged_here : housed.judge (page_of m s).body ≡ 0
    judged_here = ap housed.judge (sym (body_here m)) ∙ j.0

    forms_here : housed.forms (page_of m s).body ≡ n
    forms_here = ap housed.forms (sym (body_here m)) ∙ forms_down m parts parts_bytes ∙ sym j.1

    pub few_here : n + 14 + length r ≤ length s
    few_here = omega (arith, few_forms, j.1, w.sizes)

    read_here : (k : ℕ) → read_row housed (suc k) m s ≡ add (page_of m s) (read_row housed k (m + n) r)
    read_here k =
        read_behind k m s w.is_framed judged_here
        ∙ ap₂ (λ (x : ℕ) (y : Bytes). add (page_of m s) (read_row housed k (m + x) y)) forms_here (sym w.behind_is)

    pub walked_on : {b : Bytes} {count : ℕ} → Walked b s count m → Walked b r (count + 1) (m + n)
    walked_on {b} {count} v =
        let q : Page = page_of m s in
        record {
          passed = v.passed ++ (q ∷ []);
          reads = λ k j e. v.reads (suc k) j (omega arith) ∙ ap (prepended v.passed) (read_here k) ∙ prepended_last v.passed q (read_row housed k (m + n) r);
          of_bytes = rest_bytes;
          size_is = omega (arith, v.size_is, size_last v.passed q, size_here m);
          count_is = omega (arith, v.count_is, length_last v.passed q);
          forms_is = omega (arith, v.forms_is, forms_last v.passed q, forms_here);
          few = omega (arith, v.few, few_here);
        }

  refused_here : (m : ℕ) → Refuses parts m → housed.judge (page_of m s).body ≡ 0 → ⊥
  refused_here m j z = j (ap housed.judge (body_here m) ∙ z)

-- ---- the end

no_catalogue : (b : Bytes) → read_row housed (suc (length b)) 0 b ≡ no_row → read_catalogue housed b ≡ no_row
unfolding read_catalogue no_name_twice
no_catalogue b e = ap (λ (o : Reading). pick (leb (length b) most_bytes) (no_name_twice o) no_row) e ∙ on (leb (length b) most_bytes)
  where
    on : (q : Bool) → pick q no_row no_row ≡ no_row
    on true = refl
    on false = refl

module _ {b s : Bytes} {count m : ℕ} (v : Walked b s count m) where
  whole : read_row housed (suc (length b)) 0 b ≡ prepended v.passed (read_row housed (suc (length b - count)) m s)
  whole = v.reads (suc (length b - count)) (suc (length b)) (omega (arith, v.few))

  pub walk_refused : {name house : ℕ} {t p r : Bytes} → IsPage s name house t p r → Refuses (record { templates = t; page_out = p }) m → read_catalogue housed b ≡ no_row
  walk_refused w j = no_catalogue b (whole ∙ ap (prepended v.passed) (read_refused (length b - count) m s w.is_framed (refused_here v.of_bytes w m j)) ∙ prepended_row v.passed)

  module _ (f : framed s ≡ false) where
    ended : (z : Bool) → all_zero s ≡ z → read_row housed (suc (length b)) 0 b ≡ prepended v.passed (pick z (pages []) no_row)
    ended z e = whole ∙ ap (prepended v.passed) (read_end (length b - count) m s f ∙ ap (λ (x : Bool). pick x (pages []) no_row) e)

    pub not_ended : all_zero s ≡ false → read_catalogue housed b ≡ no_row
    not_ended e = no_catalogue b (ended false e ∙ prepended_row v.passed)

    module _ (e : all_zero s ≡ true) where
      all_read : read_row housed (suc (length b)) 0 b ≡ pages v.passed
      all_read = ended true e ∙ prepended_pages v.passed

      by_names : length b ≤ most_bytes → {d : Bool} → all_differ (names_in b) ≡ d → read_catalogue housed b ≡ pick d (pages v.passed) no_row
      unfolding read_catalogue no_name_twice
      by_names l {d} g =
          ap (λ (q : Bool). pick q (no_name_twice (read_row housed (suc (length b)) 0 b)) no_row) (le-leb (length b) most_bytes l)
          ∙ ap no_name_twice all_read
          ∙ ap (λ (q : Bool). pick q (pages v.passed) no_row) (sym (differ_are b v.passed all_read) ∙ g)

      pub named_twice : length b ≤ most_bytes → all_differ (names_in b) ≡ false → read_catalogue housed b ≡ no_row
      named_twice l g = by_names l g

      pub walk_ended : length b ≤ most_bytes → all_differ (names_in b) ≡ true → Holding b (length b - length s) count m
      walk_ended l g = record {
        pages = v.passed;
        reads = by_names l g;
        used_is = omega (arith, v.size_is);
        pages_is = v.count_is;
        forms_is = v.forms_is;
      }

-- longer ones are none
pub too_long : (b : Bytes) → most_bytes < length b → read_catalogue housed b ≡ no_row
unfolding read_catalogue
too_long b h = on (cases_Bool (leb (length b) most_bytes))
  where
    on : (leb (length b) most_bytes ≡ true) ⊎ (leb (length b) most_bytes ≡ false) → read_catalogue housed b ≡ no_row
    on (inl t) = absurd (omega (arith, leb-true (length b) most_bytes t))
    on (inr t) = ap (λ (q : Bool). pick q (no_name_twice (read_row housed (suc (length b)) 0 b)) no_row) t
