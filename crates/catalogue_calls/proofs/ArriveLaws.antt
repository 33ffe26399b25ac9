-- An arrival, whole: what each test refuses, and what is written where none does. Main statements: `page_refused`, `unshared`, `named`, `roomed`,
-- `admitted`; `taken_house`, `taken_fits`, `taken_fine`, `few_pages`, `arrived`. Assumes nothing.
use Prim.Native.Nat.{ℕ, ◌+◌, ◌^◌, ◌≤◌, ◌<◌}
use mathlib.Core.Path.{◌≡◌, refl, sym, ap, ap₂, ◌∙◌}
use mathlib.Core.Bool.{Bool, true, false, ◌&&◌, not}
use mathlib.Core.List.{List, [], ◌∷◌, ◌++◌}
use native.Mathlib.Omega.{arith}
use lib.Dec.{leb, eqb}
use lib.ListN.{length, length-append}
use Rattle.std.specs.Prelude.{Result}
use Rattle.std.proofs.lemmas.Bool.{and_from, and_right as second_false}
use borrow.Author.Tests.{le-leb, leb-true, eq-eqb, ne_eqb, lt-leb}
use Rattle.field.specs.Bytes.{Bytes, AllBytes}
use Rattle.field.specs.Put.{put}
use Rattle.refusal.specs.Refusal.{Fine}
use Rattle.outs.specs.PageOut.{check_page_out}
use Rattle.outs.specs.Templates.{check_templates}
use Rattle.outs.specs.declared.Kind.TheVariants.{New}
use Rattle.catalogue.specs.Page.{Body, Page, IsBytes, A14}
use Rattle.catalogue.specs.Catalogue.{pages, read_catalogue, page_then, row_size, size, present, Holds}
use Rattle.catalogue.specs.Shares.{Shares, unused_of_others, shares_right}
use Rattle.catalogue.specs.Calls.{arrives, Outcome, refused, remain, unless, room, call_right, arrival, called, outcome, number, used_after, pages_after}
use Rattle.catalogue.specs.Judged.{judge, project}
use Rattle.catalogue.proofs.Tests.{and_left, and_right}
use Rattle.catalogue.proofs.Keeps.{Taken, taken, covered}
use Rattle.catalogue.proofs.Numbered.{judge_exactly}
use Rattle.catalogue.proofs.Project as P
use Rattle.catalogue.proofs.Project.{given}
use Rattle.catalogue_calls.specs.Answer.{Catalogues}
use Rattle.catalogue_calls.specs.Standing.{housed, used_in}
use Rattle.catalogue_calls.specs.Arrives.{passed, RoomIn, Admitted}
use Rattle.catalogue_calls.specs.declared.answer.Unkept.{Unkept}
use Rattle.catalogue_calls.proofs.OutcomeLaws.{holds_of, held}
use Rattle.catalogue_calls.proofs.RowedLaws.{down_none, size_is}
use Rattle.catalogue_calls.proofs.LookLaws.{size_joined, size_more, size_none}
use Rattle.catalogue_calls.proofs.RoomLaws.{others_are}
use Rattle.catalogue_calls.proofs.UsedLaws.{used_are}

-- ---- the tests, one after the other

module _ (s : Shares) (p : Page) (b : Bytes) (ps : List Page) (h : read_catalogue housed b ≡ pages ps) where
  abbrev o₃ : Outcome
  o₃ = room A14 housed (length b) s p ps

  abbrev o₂ : Outcome
  o₂ = unless (not (present p.name ps)) 21 o₃

  abbrev o₁ : Outcome
  o₁ = unless (call_right A14 (length b) s p) 26 o₂

  all_tests : outcome housed s (arrives p) b ≡ unless (eqb (judge p.body) 0) (judge p.body) o₁
  unfolding called arrival project
  all_tests = held s (arrives p) b ps h

  pub page_refused : {e : ℕ} → judge p.body ≡ e → (e ≡ 0 → ⊥) → outcome housed s (arrives p) b ≡ refused e
  unfolding unless
  page_refused {e} j n = all_tests ∙ ap (λ (i : ℕ). unless (eqb i 0) i o₁) j ∙ ap (λ (t : Bool). unless t e o₁) (ne_eqb e 0 n)

  module _ (j : judge p.body ≡ 0) where
    page_passed : outcome housed s (arrives p) b ≡ o₁
    unfolding unless
    page_passed = all_tests ∙ ap (λ (t : Bool). unless t (judge p.body) o₁) (eq-eqb (judge p.body) 0 j)

    pub unshared : call_right A14 (length b) s p ≡ false → outcome housed s (arrives p) b ≡ refused 26
    unfolding unless
    unshared e = page_passed ∙ ap (λ (t : Bool). unless t 26 o₂) e

    module _ (c : call_right A14 (length b) s p ≡ true) where
      shared : outcome housed s (arrives p) b ≡ o₂
      unfolding unless
      shared = page_passed ∙ ap (λ (t : Bool). unless t 26 o₂) c

      pub named : present p.name ps ≡ true → outcome housed s (arrives p) b ≡ refused 21
      unfolding unless
      named e = shared ∙ ap (λ (t : Bool). unless (not t) 21 o₃) e

      pub roomed : present p.name ps ≡ false → outcome housed s (arrives p) b ≡ o₃
      unfolding unless
      roomed e = shared ∙ ap (λ (t : Bool). unless (not t) 21 o₃) e

-- the house and the shares
pub house_low : (n : ℕ) (s : Shares) (p : Page) → p.house < 1 → call_right A14 n s p ≡ false
house_low n s p l = let e : p.house ≡ 0 = omega arith in ap (λ (h : ℕ). (leb 1 h && leb h 16) && shares_right n s) e

pub house_high : (n : ℕ) (s : Shares) (p : Page) → 16 < p.house → call_right A14 n s p ≡ false
house_high n s p l = let e = lt-leb p.house 16 l in ap (λ (t : Bool). t && shares_right n s) (second_false (leb 1 p.house) (leb p.house 16) e)

pub shares_wrong : (n : ℕ) (s : Shares) (p : Page) → shares_right n s ≡ false → call_right A14 n s p ≡ false
shares_wrong n s p e = second_false (leb 1 p.house && leb p.house 16) (shares_right n s) e

pub call_is_right : (n : ℕ) (s : Shares) (p : Page) → 1 ≤ p.house → p.house ≤ 16 → shares_right n s ≡ true → call_right A14 n s p ≡ true
call_is_right n s p l m e = and_from (leb 1 p.house && leb p.house 16) (shares_right n s) (and_from (leb 1 p.house) (leb p.house 16) (le-leb 1 p.house l) (le-leb p.house 16 m)) e

-- the room that the code finds is the paper's
pub room_is : (s : Shares) (p : Page) (b : Bytes) {ps : List Page} {n : ℕ} → AllBytes b → read_catalogue housed b ≡ pages ps → n ≡ row_size housed ps → (r : Result (Unit {0}) Unkept)
    → RoomIn b n p.house s (14 + length p.body.templates + length p.body.page_out) r → room A14 housed (length b) s p ps ≡ passed r (remain (ps ++ (p ∷ [])))
unfolding room
room_is s p b {ps} {n} a h e r k =
    let o : Outcome = remain (ps ++ (p ∷ [])) in
    let j : row_size housed ps + size housed p ≡ n + (14 + length p.body.templates + length p.body.page_out) = omega (arith, size_is p) in
    ap₂ (λ (i l : ℕ). unless (leb (i + l) (s.most p.house)) 24 (unless (leb (row_size housed ps + size housed p + unused_of_others housed s ps p.house) (length b)) 25 o))
    (sym (used_are b ps a h p.house)) (size_is p)
    ∙ ap₂ (λ (i l : ℕ). unless (leb (used_in p.house b + (14 + length p.body.templates + length p.body.page_out)) (s.most p.house)) 24 (unless (leb (i + l) (length b)) 25 o))
    j (others_are b ps a h s p.house)
    ∙ k o

-- the page's own judge, of numbers from 1 on
pub judged : (x : Body) → IsBytes x → {n : ℕ} → housed.judge (housed.down 0 x) ≡ n → judge x ≡ n
unfolding project
judged x a e = ap judge (sym (down_none x a)) ∙ e

-- ---- a page that is taken

pages_few : (ps : List Page) → length ps ≤ row_size housed ps
pages_few [] = omega (arith, size_none)
pages_few (p ∷ ps) = omega (arith, size_more p ps, size_is p, pages_few ps)

module _ {b : Bytes} {p : Page} {s : Shares} {count total_size forms : ℕ} (w : Admitted b p s total_size count forms) where
  abbrev ps : List Page
  ps = w.holding.pages

  h : Holds housed b ps
  h = holds_of w.of_bytes w.holding

  number_none : number (arrival housed (length b) s p ps) ≡ 0
  unfolding called number
  number_none = ap number (sym (held s (arrives p) b ps w.holding.reads) ∙ w.outcome_is)

  t : Taken (given A14) (length b) s p ps
  unfolding project
  t = taken (given A14) (length b) s p ps number_none

  pub taken_house : p.house ≤ 16
  unfolding project
  taken_house = leb-true p.house 16 (and_right (leb 1 p.house) (leb p.house 16) (and_left (leb 1 p.house && leb p.house 16) (shares_right (length b) s) t.call_is_right))

  pub taken_fits : total_size + 14 + length p.body.templates + length p.body.page_out ≤ length b
  unfolding project
  taken_fits = let c = (covered (given A14) (length b) s p ps t.room_is).1 in omega (arith, c, size_is p, w.holding.used_is)

  pub taken_templates : check_templates New p.body.templates ≡ Fine
  unfolding project
  taken_templates = ((judge_exactly p.body).0 t.judged).templates_are

  pub taken_page_out : check_page_out 4 p.body.page_out ≡ Fine
  unfolding project
  taken_page_out = ((judge_exactly p.body).0 t.judged).page_out_is

  pub few_pages : count ≤ 16777216
  few_pages = omega (arith, w.holding.pages_is, pages_few ps, h.fits, h.short)

  pub arrived : p.name < 2 ^ 32 → IsBytes p.body → {b' : Bytes} → b' ≡ put b total_size (page_then housed forms p [])
      → Catalogues (outcome housed s (arrives p) b) b 0 (total_size + 14 + length p.body.templates + length p.body.page_out) (count + 1) b'
  unfolding number used_after pages_after project
  arrived n a {b'} e =
      let i : length (ps ++ (p ∷ [])) ≡ length ps + 1 = length-append ps (p ∷ []) ∙ omega arith in
      record {
        number_is = sym (ap number w.outcome_is);
        used_is = omega (arith, w.holding.used_is, size_joined ps (p ∷ []), size_more p [], size_none, size_is p) ∙ sym (ap (used_after housed) w.outcome_is);
        pages_is = omega (arith, w.holding.pages_is, i) ∙ sym (ap pages_after w.outcome_is);
        bytes_are =
            e ∙ ap₂ (λ (i j : ℕ). put b i (page_then housed j p [])) w.holding.used_is w.holding.forms_is
            ∙ sym (P.arrival_in_place A14 s b ps h p (n, a, tt) (ap number w.outcome_is));
      }
