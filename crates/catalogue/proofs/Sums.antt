-- Sums over the houses. Main statements: `total_split`, `total_but_same`, `total_grow`, `each_of`. Assumes nothing.
use Prim.Native.Nat.{ℕ, zero, suc, ◌+◌, ◌≤◌, ◌<◌}
use mathlib.Core.Path.{◌≡◌, refl, sym, ap, ◌∙◌}
use mathlib.Core.Bool.{Bool, true, false}
use mathlib.Core.List.{[], ◌∷◌}
use mathlib.Core.Logic.{◌⊎◌, inl, inr}
use native.Mathlib.Omega.{arith}
use lib.Dec.{eqb}
use Rattle.std.proofs.lemmas.Bool.{cases_Bool}
use borrow.Author.Tests.{eq-eqb, eqb-true, ne_eqb, eqb-false}
use Rattle.field.specs.Bytes.{pick}
use Rattle.catalogue.specs.Page.{Page, Given}
use Rattle.catalogue.specs.Catalogue.{size}
use Rattle.catalogue.specs.Shares.{total, each, but, used}
use Rattle.catalogue.proofs.Tests.{and_left, and_right}

pub total_same : (f g : ℕ → ℕ) (k : ℕ) → ((i : ℕ) → f i ≡ g i) → total f k ≡ total g k
unfolding total
total_same f g zero e = refl
total_same f g (suc k) e = omega (arith, total_same f g k e, e (suc k))

pub but_there : (h : ℕ) (f : ℕ → ℕ) → but h f h ≡ 0
unfolding but
but_there h f = ap (λ (t : Bool). pick t 0 (f h)) (eq-eqb h h refl)

pub but_else : (h : ℕ) (f : ℕ → ℕ) (k : ℕ) → (k ≡ h → ⊥) → but h f k ≡ f k
unfolding but
but_else h f k n = ap (λ (t : Bool). pick t 0 (f k)) (ne_eqb k h n)

-- houses before h
total_below : (h : ℕ) (f g : ℕ → ℕ) (k : ℕ) → k < h → ((i : ℕ) → (i ≡ h → ⊥) → f i ≡ g i) → total f k ≡ total g k
unfolding total
total_below h f g zero l e = refl
total_below h f g (suc k) l e = omega (arith, total_below h f g k (omega arith) e, e (suc k) (λ q. omega arith))

-- one house and the others
pub total_split : (h : ℕ) (f : ℕ → ℕ) (k : ℕ) → 1 ≤ h → h ≤ k → total f k ≡ total (but h f) k + f h
unfolding total
total_split h f zero l m = absurd (omega arith)
total_split h f (suc k) l m = on (cases_Bool (eqb (suc k) h)) (total_split h f k l)
  where
    on : (eqb (suc k) h ≡ true) ⊎ (eqb (suc k) h ≡ false) → (h ≤ k → total f k ≡ total (but h f) k + f h) → total f k + f (suc k) ≡ total (but h f) k + but h f (suc k) + f h
    on (inl t) ih =
        let e : suc k ≡ h = eqb-true (suc k) h t in
        let z : but h f (suc k) ≡ 0 = ap (but h f) e ∙ but_there h f in
        omega (arith, total_below h f (but h f) k (omega arith) (λ i n. sym (but_else h f i n)), ap f e)
    on (inr t) ih =
        let n : suc k ≡ h → ⊥ = eqb-false (suc k) h t in
        omega (arith, ih (omega arith), but_else h f (suc k) n)

pub total_but_same : (h : ℕ) (f g : ℕ → ℕ) (k : ℕ) → ((i : ℕ) → (i ≡ h → ⊥) → f i ≡ g i) → total (but h f) k ≡ total (but h g) k
total_but_same h f g k e = total_same (but h f) (but h g) k (λ i. on i (cases_Bool (eqb i h)))
  where
    on : (i : ℕ) → (eqb i h ≡ true) ⊎ (eqb i h ≡ false) → but h f i ≡ but h g i
    on i (inl t) = let q : i ≡ h = eqb-true i h t in ap (but h f) q ∙ but_there h f ∙ sym (but_there h g) ∙ ap (but h g) (sym q)
    on i (inr t) = let n : i ≡ h → ⊥ = eqb-false i h t in but_else h f i n ∙ e i n ∙ sym (but_else h g i n)

-- one house grows
pub total_grow : (h d : ℕ) (f g : ℕ → ℕ) (k : ℕ) → ((i : ℕ) → (i ≡ h → ⊥) → f i ≡ g i) → f h ≤ g h + d → total f k ≤ total g k + d
unfolding total
total_grow h d f g zero e l = omega arith
total_grow h d f g (suc k) e l = on (cases_Bool (eqb (suc k) h)) (total_grow h d f g k e l)
  where
    on : (eqb (suc k) h ≡ true) ⊎ (eqb (suc k) h ≡ false) → total f k ≤ total g k + d → total f k + f (suc k) ≤ total g k + g (suc k) + d
    on (inl t) ih =
        let q : suc k ≡ h = eqb-true (suc k) h t in
        omega (arith, total_below h f g k (omega arith) e, ap f q, ap g q)
    on (inr t) ih = omega (arith, e (suc k) (eqb-false (suc k) h t))

pub each_of : (f : ℕ → Bool) (h k : ℕ) → each f k ≡ true → 1 ≤ h → h ≤ k → f h ≡ true
unfolding each
each_of f h zero e l m = absurd (omega arith)
each_of f h (suc k) e l m = on (cases_Bool (eqb h (suc k))) (each_of f h k)
  where
    on : (eqb h (suc k) ≡ true) ⊎ (eqb h (suc k) ≡ false) → (each f k ≡ true → 1 ≤ h → h ≤ k → f h ≡ true) → f h ≡ true
    on (inl t) ih = ap f (eqb-true h (suc k) t) ∙ and_right (each f k) (f (suc k)) e
    on (inr t) ih = let n : h ≡ suc k → ⊥ = eqb-false h (suc k) t in ih (and_left (each f k) (f (suc k)) e) l (omega arith)

-- ---- the bytes of one page

pub used_own : (G : Given) (p : Page) → used G.format p.house (p ∷ []) ≡ size G.format p
unfolding used
used_own G p = ap (λ (t : Bool). pick t (size G.format p) 0 + 0) (eq-eqb p.house p.house refl) ∙ omega arith

pub used_else : (G : Given) (h : ℕ) (p : Page) → (h ≡ p.house → ⊥) → used G.format h (p ∷ []) ≡ 0
unfolding used
used_else G h p n = ap (λ (t : Bool). pick t (size G.format p) 0 + 0) (ne_eqb h p.house n)
