-- The shares house by house, as code goes through them. Main statements: `sure`, `allowed`, `no_shares`, `summing_next`, `summing_but`,
-- `summing_other`, `others_are`, `rights_next`, `rights_fail`, `rights_all`. Assumes nothing.
use Prim.Native.Nat.{ℕ, zero, suc, ◌+◌, ◌-◌, ◌*◌, ◌≤◌, ◌<◌}
use mathlib.Core.Path.{◌≡◌, refl, sym, ap, ap₂, ◌∙◌}
use mathlib.Core.Bool.{Bool, true, false, ◌&&◌}
use mathlib.Core.List.{List}
use mathlib.Core.Logic.{◌⊎◌, inl, inr}
use native.Mathlib.Omega.{arith}
use native.Mathlib.Decide.{dec_le}
use lib.Dec.{eqb, leb}
use lib.ListN.{length, get_or}
use Rattle.std.proofs.lemmas.Bool.{and_from, cases_Bool}
use borrow.Author.Tests.{le-leb, leb-true, eq-eqb, ne_eqb, lt-leb}
use Rattle.field.specs.Bytes.{pick}
use Rattle.catalogue.specs.Page.{Page}
use Rattle.catalogue.specs.Shares.{Shares, total, each, used, unused, but, unused_of_others, shares_right}
use Rattle.catalogue.proofs.Tests.{and_left, and_right, not_both}
use Rattle.catalogue_calls.specs.Answer.{shares_of}
use Rattle.catalogue_calls.specs.Houses.{unused_by}
use Rattle.catalogue_calls.specs.Standing.{housed}

-- ---- the shares as they are handed over

module _ (ns : List ℕ) where
  abbrev handed : Shares
  handed = record { guarantee = λ h. get_or ns (h + h - 2) 0; most = λ h. get_or ns (h + h - 1) 0 }

  abbrev none : Shares
  none = record { guarantee = λ h. 1; most = λ h. 0 }

  shares_are : length ns ≡ 32 → shares_of ns ≡ handed
  unfolding shares_of
  shares_are l = ap (λ (b : Bool). pick b handed none) (eq-eqb (length ns) 32 l)

  pub sure : length ns ≡ 32 → (h i : ℕ) → i ≡ h + h - 2 → get_or ns i 0 ≡ (shares_of ns).guarantee h
  unfolding shares_of
  sure l h i e = ap (λ (k : ℕ). get_or ns k 0) e ∙ sym (ap (λ (s : Shares). s.guarantee h) (shares_are l))

  pub allowed : length ns ≡ 32 → (h i : ℕ) → i ≡ h + h - 1 → get_or ns i 0 ≡ (shares_of ns).most h
  unfolding shares_of
  allowed l h i e = ap (λ (k : ℕ). get_or ns k 0) e ∙ sym (ap (λ (s : Shares). s.most h) (shares_are l))

  none_wrong : (n : ℕ) → shares_right n none ≡ false
  unfolding shares_right each
  none_wrong n = refl

  pub no_shares : (n : ℕ) → (length ns ≡ 32 → ⊥) → shares_right n (shares_of ns) ≡ false
  unfolding shares_of
  no_shares n f = ap (λ (b : Bool). shares_right n (pick b handed none)) (ne_eqb (length ns) 32 f) ∙ none_wrong n

-- ---- sums over the houses before h

pub record Summing (f : ℕ → ℕ) (sum h : ℕ) : Type 0 where
  pub sum_is : sum ≡ total f (h - 1)
  pub bounded : sum ≤ (h - 1) * 4294967296

total_to : (f : ℕ → ℕ) (h : ℕ) → 1 ≤ h → total f h ≡ total f (h - 1) + f h
unfolding total
total_to f zero l = absurd (omega arith)
total_to f (suc k) l = ap (λ (j : ℕ). total f j + f (suc k)) (omega arith)

pub summing_none : (f : ℕ → ℕ) → Summing f 0 1
unfolding total
summing_none f = record { sum_is = refl; bounded = omega arith }

pub summing_next : {f : ℕ → ℕ} {sum h : ℕ} → Summing f sum h → 1 ≤ h → (x : ℕ) → x ≡ f h → x < 4294967296 → Summing f (sum + x) (h + 1)
summing_next {f} {sum} {h} s l x e b =
    let q : h + 1 - 1 ≡ h = omega arith in
    record { sum_is = omega (arith, s.sum_is, total_to f h l, ap (total f) q); bounded = omega (arith, s.bounded) }

-- ---- what the other houses have not used

pub summing_but : (f : ℕ → ℕ) (g : ℕ) {sum h : ℕ} → Summing (but g f) sum h → 1 ≤ h → h ≡ g → Summing (but g f) sum (h + 1)
unfolding but
summing_but f g {sum} {h} s l e =
    let z : but g f h ≡ 0 = ap (λ (b : Bool). pick b 0 (f h)) (eq-eqb h g e) in
    let q : h + 1 - 1 ≡ h = omega arith in
    record { sum_is = omega (arith, s.sum_is, total_to (but g f) h l, ap (total (but g f)) q, z); bounded = omega (arith, s.bounded) }

pub summing_other : (f : ℕ → ℕ) (g : ℕ) {sum h : ℕ} → Summing (but g f) sum h → 1 ≤ h → (h ≡ g → ⊥) → (x : ℕ) → x ≡ f h → x < 4294967296 → Summing (but g f) (sum + x) (h + 1)
unfolding but
summing_other f g {sum} {h} s l d x e b = summing_next s l x (e ∙ sym (ap (λ (t : Bool). pick t 0 (f h)) (ne_eqb h g d))) b

total_alike : (f g : ℕ → ℕ) (k : ℕ) → ((h : ℕ) → 1 ≤ h → h ≤ k → f h ≡ g h) → total f k ≡ total g k
unfolding total
total_alike f g zero e = refl
total_alike f g (suc k) e = ap₂ (λ (m n : ℕ). m + n) (total_alike f g k (λ h l m. e h l (omega arith))) (e (suc k) (omega arith) (omega arith))

-- where the houses have used what these pages take
pub others_are : (ns uses : List ℕ) (ps : List Page) → ((h : ℕ) → h ≤ 16 → get_or uses h 0 ≡ used housed h ps) → (g : ℕ) → total (but g (unused_by ns uses)) 16 ≡ unused_of_others housed (shares_of ns) ps g
unfolding but unused
others_are ns uses ps u g =
    total_alike (but g (unused_by ns uses)) (but g (unused housed (shares_of ns) ps)) 16 (λ h l m. ap (λ (n : ℕ). pick (eqb h g) 0 ((shares_of ns).guarantee h - n)) (u h m))

-- ---- whether they are right

pub record Rights (s : Shares) (sum h : ℕ) : Type 0 where
  pub right : each (λ k. leb (s.guarantee k) (s.most k)) (h - 1) ≡ true
  pub summing : Summing s.guarantee sum h

pub rights_none : (s : Shares) → Rights s 0 1
unfolding each
rights_none s = record { right = refl; summing = summing_none s.guarantee }

each_to : (f : ℕ → Bool) (h : ℕ) → 1 ≤ h → each f h ≡ (each f (h - 1) && f h)
unfolding each
each_to f zero l = absurd (omega arith)
each_to f (suc k) l = let q : k ≡ suc k - 1 = omega arith in ap (λ (j : ℕ). each f j && f (suc k)) q

each_down : (f : ℕ → Bool) (j k : ℕ) → j ≤ k → each f k ≡ true → each f j ≡ true
unfolding each
each_down f j zero l e = ap (each f) (let q : j ≡ 0 = omega arith in q)
each_down f j (suc k) l e = on (dec_le (suc k) j) (each_down f j k)
  where
    on : Dec (suc k ≤ j) → (j ≤ k → each f k ≡ true → each f j ≡ true) → each f j ≡ true
    on (yes m) h = let q : j ≡ suc k = omega arith in ap (each f) q ∙ e
    on (no m) h = h (omega arith) (and_left (each f k) (f (suc k)) e)

each_fails : (f : ℕ → Bool) (h k : ℕ) → 1 ≤ h → h ≤ k → f h ≡ false → each f k ≡ false
each_fails f h k l m e = on (cases_Bool (each f k))
  where
    on : (each f k ≡ true) ⊎ (each f k ≡ false) → each f k ≡ false
    on (inl t) = not_both (f h) (and_right (each f (h - 1)) (f h) (sym (each_to f h l) ∙ each_down f h k m t)) e
    on (inr t) = t

pub rights_next : {s : Shares} {sum h : ℕ} → Rights s sum h → 1 ≤ h → (g m : ℕ) → g ≡ s.guarantee h → m ≡ s.most h → g ≤ m → g < 4294967296 → Rights s (sum + g) (h + 1)
rights_next {s} {sum} {h} r l g m e f le b =
    let t = λ (k : ℕ). leb (s.guarantee k) (s.most k) in
    let q : h + 1 - 1 ≡ h = omega arith in
    record {
      right = ap (each t) q ∙ each_to t h l ∙ and_from (each t (h - 1)) (t h) r.right (le-leb (s.guarantee h) (s.most h) (omega arith));
      summing = summing_next r.summing l g e b;
    }

pub rights_fail : (s : Shares) (h : ℕ) → 1 ≤ h → h ≤ 16 → (g m : ℕ) → g ≡ s.guarantee h → m ≡ s.most h → m < g → (n : ℕ) → shares_right n s ≡ false
unfolding shares_right
rights_fail s h l k g m e f lt n =
    ap (λ (b : Bool). b && leb (total s.guarantee 16) n) (each_fails (λ j. leb (s.guarantee j) (s.most j)) h 16 l k (lt-leb (s.guarantee h) (s.most h) (omega arith)))

pub rights_all : {s : Shares} {sum : ℕ} → Rights s sum 17 → (n : ℕ) → shares_right n s ≡ leb sum n
unfolding shares_right
rights_all {s} {sum} r n = ap₂ (λ (b : Bool) (k : ℕ). b && leb k n) r.right (sym r.summing.sum_is)
