-- A row of pages is read page by page: what stands in front, and what is read behind it. Main statements: `read_behind`, `read_refused`,
-- `read_end`, `forms_up`, `forms_down`. Assumes nothing.
use Prim.Native.Nat.{ℕ, suc, ◌+◌}
use mathlib.Core.Path.{◌≡◌, refl, sym, ap, ap₂, ◌∙◌}
use mathlib.Core.Bool.{Bool, true, false, ◌&&◌}
use mathlib.Core.List.{[], ◌∷◌}
use mathlib.Core.Logic.{◌⊎◌, inl, inr}
use native.Mathlib.Omega.{arith}
use lib.Dec.{eqb}
use lib.ListN.{drop}
use Rattle.std.proofs.lemmas.Bool.{and_from, cases_Bool}
use borrow.Author.Tests.{eq-eqb, eqb-true, ne_eqb}
use Rattle.field.specs.Bytes.{Bytes, pick}
use Rattle.field.specs.Row.{Row, end, loose, field, read}
use Rattle.spec.specs.Transform.{bit}
use Rattle.spec.specs.Demand.{templates_in}
use Rattle.catalogue.specs.Page.{Body, Page, IsBytes}
use Rattle.catalogue.specs.Catalogue.{Reading, no_row, pages, add, all_zero, page_in, behind_body, behind, page_right, read_page, read_row}
use Rattle.catalogue.specs.Numbers.{Change, changed, raised, opposite, down}
use Rattle.catalogue.specs.Judged.{forms, project}
use Rattle.catalogue.proofs.Rows.{read_up}
use Rattle.catalogue_calls.specs.Standing.{housed, framed}
use Rattle.catalogue_calls.proofs.PageLaws.{frame, page_of, page_in_is, behind_is, right_is}

-- ---- what is read of the row in front

read_97 : (k n c : ℕ) (b : Bytes) → eqb c 0x97 ≡ true
    → read_row housed (suc k) n (c ∷ b) ≡ pick (framed (c ∷ b) && eqb (housed.judge (page_of n (c ∷ b)).body) 0) (add (page_of n (c ∷ b)) (read_row housed k (n + housed.forms (page_of n (c ∷ b)).body) (behind_body (drop 5 b)))) no_row
unfolding read_row read_page
read_97 k n c b t =
    let p : Page = page_in housed n b in
    let f : ℕ → Bytes → Reading = read_row housed k in
    let y : Reading = pick (all_zero (c ∷ b)) (pages []) no_row in
    let g : Page → Bytes → Reading = λ (q : Page) (r : Bytes). add q (f (n + housed.forms q.body) r) in
    ap (λ (x : Bool). pick x (pick (page_right housed b p) (g p (behind housed b)) no_row) y) t
    ∙ ap₂ (λ (x : Bool) (z : Reading). pick x z no_row) (right_is n c b t) (ap₂ g (page_in_is n (c ∷ b)) (behind_is (c ∷ b)))

pub read_behind : (k n : ℕ) (s : Bytes) → framed s ≡ true → housed.judge (page_of n s).body ≡ 0
    → read_row housed (suc k) n s ≡ add (page_of n s) (read_row housed k (n + housed.forms (page_of n s).body) (behind_body (drop 6 s)))
read_behind k n [] f j = absurd (omega (arith, (frame [] f).inside))
read_behind k n (c ∷ b) f j =
    let q : (framed (c ∷ b) && eqb (housed.judge (page_of n (c ∷ b)).body) 0) ≡ true = and_from (framed (c ∷ b)) (eqb (housed.judge (page_of n (c ∷ b)).body) 0) f (eq-eqb (housed.judge (page_of n (c ∷ b)).body) 0 j) in
    read_97 k n c b (eq-eqb c 0x97 (frame (c ∷ b) f).begins)
    ∙ ap (λ (x : Bool). pick x (add (page_of n (c ∷ b)) (read_row housed k (n + housed.forms (page_of n (c ∷ b)).body) (behind_body (drop 5 b)))) no_row) q

pub read_refused : (k n : ℕ) (s : Bytes) → framed s ≡ true → (housed.judge (page_of n s).body ≡ 0 → ⊥) → read_row housed (suc k) n s ≡ no_row
read_refused k n [] f j = absurd (omega (arith, (frame [] f).inside))
read_refused k n (c ∷ b) f j =
    let q : (framed (c ∷ b) && eqb (housed.judge (page_of n (c ∷ b)).body) 0) ≡ false = ap₂ (λ (x y : Bool). x && y) f (ne_eqb (housed.judge (page_of n (c ∷ b)).body) 0 j) in
    read_97 k n c b (eq-eqb c 0x97 (frame (c ∷ b) f).begins)
    ∙ ap (λ (x : Bool). pick x (add (page_of n (c ∷ b)) (read_row housed k (n + housed.forms (page_of n (c ∷ b)).body) (behind_body (drop 5 b)))) no_row) q

-- where no page stands, the row ends, and all that is left is zero
pub read_end : (k n : ℕ) (s : Bytes) → framed s ≡ false → read_row housed (suc k) n s ≡ pick (all_zero s) (pages []) no_row
unfolding read_row all_zero
read_end k n [] f = refl
read_end k n (c ∷ b) f = on (cases_Bool (eqb c 0x97))
  where
    on : (eqb c 0x97 ≡ true) ⊎ (eqb c 0x97 ≡ false) → read_row housed (suc k) n (c ∷ b) ≡ pick (eqb c 0 && all_zero b) (pages []) no_row
    on (inl t) =
        let z : eqb c 0 ≡ false = ap (λ (x : ℕ). eqb x 0) (eqb-true c 0x97 t) in
        read_97 k n c b t
        ∙ ap (λ (x : Bool). pick (x && eqb (housed.judge (page_of n (c ∷ b)).body) 0) (add (page_of n (c ∷ b)) (read_row housed k (n + housed.forms (page_of n (c ∷ b)).body) (behind_body (drop 5 b)))) no_row) f
        ∙ sym (ap (λ (x : Bool). pick (x && all_zero b) (pages []) no_row) z)
    on (inr t) = ap (λ (x : Bool). pick x (read_page housed (read_row housed k) n b (page_in housed n b)) (pick (eqb c 0 && all_zero b) (pages []) no_row)) t

-- ---- a page's templates, counted where they stand

templates_changed : (m : Change) (x : Row) → templates_in (changed m x) ≡ templates_in x
unfolding templates_in changed
templates_changed m end = refl
templates_changed m (loose b) = refl
templates_changed m (field t f i r) = ap (λ (n : ℕ). bit (eqb t 0x84) 1 + n) (templates_changed m r)

pub forms_up : (n : ℕ) (x : Body) → IsBytes x → housed.forms (housed.up n x) ≡ housed.forms x
unfolding project forms
forms_up n x a = ap templates_in (read_up n x a).0 ∙ templates_changed (raised 0x84 n) (read x.templates)

pub forms_down : (n : ℕ) (x : Body) → IsBytes x → housed.forms (housed.down n x) ≡ housed.forms x
unfolding project down
forms_down n x a = forms_up (opposite n) x a
