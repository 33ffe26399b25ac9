-- Numbers from 1 to a count, each once, by one walk for each window of them. As many numbers as the count, all from 1 to the count, with none twice,
-- are each once: added up over 1 to the count, the occurrences are the length. Main statements: `each_from`; of one walk `passed_by`,
-- `passed_marked`, `passed_end`, and its refusals `too_many`, `beyond` and `twice`; of all walks `singles_all`. Assumes nothing.
use Prim.Native.Nat.{ℕ, zero, suc, ◌+◌, ◌*◌, ◌≤◌, ◌<◌, ◌-◌, ◌%◌}
use mathlib.Core.Path.{◌≡◌, refl, sym, ap, ◌∙◌, subst}
use mathlib.Core.Bool.{Bool, true, false}
use mathlib.Core.List.{List, [], ◌∷◌}
use mathlib.Core.Logic.{◌⊎◌, inl, inr}
use native.Mathlib.Omega.{arith}
use lib.Dec.{eqb, leb}
use borrow.Author.Tests.{leb-false, leb-true, eq-eqb, eqb-true, ne_eqb, eqb-false}
use lib.ListN.{length, replicate}
use Rattle.std.proofs.lemmas.List.{length-replicate}
use Rattle.std.proofs.lemmas.Bool.{and_from, cases_Bool}
use Rattle.catalogue.specs.Shares.{total}
use Rattle.catalogue.specs.Judged.{occurrences, once, each_once}
use Rattle.catalogue.specs.Numbers.{opposite}
use Rattle.catalogue.proofs.Tests.{and_left, and_right}
use Rattle.catalogue_calls.specs.Once.{lowered_by, mark_at, Marked, within, Clear, Window}
use Rattle.catalogue_calls.proofs.MarkLaws.{mark_below, no_mark}

-- ---- occurrences

one_more : (m : ℕ) (ks : List ℕ) → occurrences m (m ∷ ks) ≡ 1 + occurrences m ks
unfolding occurrences
one_more m ks = rw (eq-eqb m m refl)

as_many : (j m : ℕ) (ks : List ℕ) → (j ≡ m → ⊥) → occurrences j (m ∷ ks) ≡ occurrences j ks
unfolding occurrences
as_many j m ks n = let e : eqb m j ≡ false = ne_eqb m j (λ q. n (sym q)) in rw e (omega arith)

within_none : (n : ℕ) → within n [] ≡ 0
unfolding within total occurrences
within_none zero = refl
within_none (suc n) = omega (arith, within_none n)

within_out : (n m : ℕ) (ks : List ℕ) → (m ≡ 0) ⊎ (n < m) → within n (m ∷ ks) ≡ within n ks
unfolding within total
within_out zero m ks o = refl
within_out (suc n) m ks (inl e) = omega (arith, within_out n m ks (inl e), as_many (suc n) m ks (λ q. omega arith))
within_out (suc n) m ks (inr l) = omega (arith, within_out n m ks (inr (omega arith)), as_many (suc n) m ks (λ q. omega arith))

within_in : (n m : ℕ) (ks : List ℕ) → 0 < m → m ≤ n → within n (m ∷ ks) ≡ 1 + within n ks
unfolding within total
within_in zero m ks l h = absurd (omega arith)
within_in (suc n) m ks l h = on (cases_Bool (eqb (suc n) m)) (within_in n m ks l)
  where
    on : (eqb (suc n) m ≡ true) ⊎ (eqb (suc n) m ≡ false) → (m ≤ n → within n (m ∷ ks) ≡ 1 + within n ks) → within n (m ∷ ks) + occurrences (suc n) (m ∷ ks) ≡ 1 + (within n ks + occurrences (suc n) ks)
    on (inl t) ih =
        let e : suc n ≡ m = eqb-true (suc n) m t in
        let f : occurrences (suc n) (m ∷ ks) ≡ 1 + occurrences (suc n) ks = ap (λ k. occurrences (suc n) (k ∷ ks)) (sym e) ∙ one_more (suc n) ks in
        omega (arith, within_out n m ks (inr (omega arith)), f)
    on (inr t) ih = let d : suc n ≡ m → ⊥ = eqb-false (suc n) m t in omega (arith, ih (omega arith), as_many (suc n) m ks d)

within_most : (n : ℕ) (ks : List ℕ) → within n ks ≤ length ks
within_most n [] = omega (arith, within_none n)
within_most n (m ∷ ks) = on (cases_Bool (eqb m 0)) (cases_Bool (leb m n)) (within_most n ks)
  where
    on : (eqb m 0 ≡ true) ⊎ (eqb m 0 ≡ false) → (leb m n ≡ true) ⊎ (leb m n ≡ false) → within n ks ≤ length ks → within n (m ∷ ks) ≤ suc (length ks)
    on (inl e) l h = omega (arith, within_out n m ks (inl (eqb-true m 0 e)))
    on (inr e) (inl l) h = omega (arith, within_in n m ks (omega (arith, eqb-false m 0 e)) (leb-true m n l))
    on (inr e) (inr l) h = omega (arith, within_out n m ks (inr (leb-false m n l)))

-- ---- each once

once_within : (n : ℕ) (ks : List ℕ) → once n ks ≡ true → within n ks ≡ n
unfolding within total once
once_within zero ks e = refl
once_within (suc n) ks e = omega (arith, eqb-true (occurrences (suc n) ks) 1 (and_left (eqb (occurrences (suc n) ks) 1) (once n ks) e), once_within n ks (and_right (eqb (occurrences (suc n) ks) 1) (once n ks) e))

once_at : (n m : ℕ) (ks : List ℕ) → once n ks ≡ true → 0 < m → m ≤ n → occurrences m ks ≡ 1
unfolding once
once_at zero m ks e l h = absurd (omega arith)
once_at (suc n) m ks e l h = on (cases_Bool (eqb m (suc n))) (once_at n m ks (and_right (eqb (occurrences (suc n) ks) 1) (once n ks) e) l)
  where
    on : (eqb m (suc n) ≡ true) ⊎ (eqb m (suc n) ≡ false) → (m ≤ n → occurrences m ks ≡ 1) → occurrences m ks ≡ 1
    on (inl t) ih = ap (λ k. occurrences k ks) (eqb-true m (suc n) t) ∙ eqb-true (occurrences (suc n) ks) 1 (and_left (eqb (occurrences (suc n) ks) 1) (once n ks) e)
    on (inr t) ih = let d : m ≡ suc n → ⊥ = eqb-false m (suc n) t in ih (omega arith)

within_at_most : (n : ℕ) (ks : List ℕ) → ((m : ℕ) → 0 < m → m ≤ n → occurrences m ks ≤ 1) → within n ks ≤ n
unfolding within total
within_at_most zero ks s = omega arith
within_at_most (suc n) ks s = omega (arith, within_at_most n ks (λ m l h. s m l (omega arith)), s (suc n) (omega arith) (omega arith))

once_from : (n : ℕ) (ks : List ℕ) → n ≤ within n ks → ((m : ℕ) → 0 < m → m ≤ n → occurrences m ks ≤ 1) → once n ks ≡ true
unfolding within total once
once_from zero ks e s = refl
once_from (suc n) ks e s =
    let before : (m : ℕ) → 0 < m → m ≤ n → occurrences m ks ≤ 1 = λ m l h. s m l (omega arith) in
    let here : occurrences (suc n) ks ≤ 1 = s (suc n) (omega arith) (omega arith) in
    let most : within n ks ≤ n = within_at_most n ks before in
    and_from (eqb (occurrences (suc n) ks) 1) (once n ks) (eq-eqb (occurrences (suc n) ks) 1 (omega arith)) (once_from n ks (omega arith) before)

pub each_from : (n : ℕ) (ks : List ℕ) → length ks ≡ n → within n ks ≡ n → ((m : ℕ) → 0 < m → m ≤ n → occurrences m ks ≤ 1) → each_once n ks ≡ true
unfolding each_once
each_from n ks l e s = and_from (eqb (length ks) n) (once n ks) (eq-eqb (length ks) n l) (once_from n ks (omega arith) s)

-- refused is what breaks one of these
not_each : (n : ℕ) (ks : List ℕ) → (length ks ≡ n → within n ks ≡ n → ((m : ℕ) → 0 < m → m ≤ n → occurrences m ks ≡ 1) → ⊥) → each_once n ks ≡ false
unfolding each_once
not_each n ks f = on (cases_Bool (each_once n ks))
  where
    on : (each_once n ks ≡ true) ⊎ (each_once n ks ≡ false) → each_once n ks ≡ false
    on (inl e) =
        let o : once n ks ≡ true = and_right (eqb (length ks) n) (once n ks) e in
        absurd (f (eqb-true (length ks) n (and_left (eqb (length ks) n) (once n ks) e)) (once_within n ks o) (λ m l h. once_at n m ks o l h))
    on (inr e) = e

-- ---- numbers as they stood

opposite_of : (b : ℕ) → b < 4294967296 → opposite b ≡ 4294967296 - b
unfolding opposite
opposite_of b h = omega arith

-- the code's own subtraction, which wraps
lowered_next : {b n : ℕ} {xs ys : List ℕ} → b < 4294967296 → xs ≡ n ∷ ys → lowered_by b xs ≡ ((n + (4294967296 - b)) % 4294967296) ∷ lowered_by b ys
unfolding lowered_by
lowered_next {b} {n} {xs} {ys} h e = rw e (ap (λ (o : ℕ). ((n + o) % 4294967296) ∷ lowered_by b ys) (opposite_of b h))

lowered_none : (b : ℕ) {xs : List ℕ} → xs ≡ [] → lowered_by b xs ≡ []
unfolding lowered_by
lowered_none b e = rw e

-- ---- one walk

-- of all numbers the rest is still to come: those before it are counted, none of them is beyond the count, and those of the window are marked
pub record Passed (n low w : ℕ) (words : List ℕ) (left : ℕ) (all rest : List ℕ) : Type 0 where
  pub size : length words ≡ w
  pub count : length rest + n ≡ length all + left
  pub range : within n all + length rest ≡ length all + within n rest
  pub marks : (i : ℕ) → i < 64 * w → occurrences (low + 1 + i) all ≡ mark_at words i + occurrences (low + 1 + i) rest

pub passed_none : (n low w : ℕ) (all : List ℕ) → Passed n low w (replicate w 0) n all all
passed_none n low w all = record {
  size = length-replicate w 0;
  count = omega arith;
  range = omega arith;
  marks = λ i h. omega (arith, no_mark w i);
}

pub passed_next : {n low w : ℕ} {words : List ℕ} {left b m : ℕ} {all xs ys : List ℕ} → b < 4294967296 → xs ≡ m ∷ ys → Passed n low w words left all (lowered_by b xs) → Passed n low w words left all (((m + (4294967296 - b)) % 4294967296) ∷ lowered_by b ys)
passed_next {n} {low} {w} {words} {left} {b} {m} {all} h e p = subst (Passed n low w words left all) (lowered_next h e) p

-- one number more, from 1 to the count: it is marked if it is of the window, and is not of it otherwise
passed_on : {n low w : ℕ} {words words' : List ℕ} {left m : ℕ} {all rest : List ℕ} → Passed n low w words left all (m ∷ rest) → 0 < left → 0 < m → m ≤ n → length words' ≡ length words → ((i : ℕ) → i < 64 * w → mark_at words i + occurrences (low + 1 + i) (m ∷ rest) ≡ mark_at words' i + occurrences (low + 1 + i) rest) → Passed n low w words' (left - 1) all rest
passed_on {n} {low} {w} {words} {words'} {left} {m} {all} {rest} p l a b e k = record {
  size = e ∙ p.size;
  count = omega (arith, p.count);
  range = omega (arith, p.range, within_in n m rest a b);
  marks = λ i h. p.marks i h ∙ k i h;
}

pub passed_by : {n low w : ℕ} {words : List ℕ} {left m : ℕ} {all rest : List ℕ} → Passed n low w words left all (m ∷ rest) → 0 < left → 0 < m → m ≤ n → (m ≤ low) ⊎ (low + 64 * w < m) → Passed n low w words (left - 1) all rest
passed_by {n} {low} {w} {words} {left} {m} {all} {rest} p l a b (inl o) = passed_on p l a b refl (λ i h. omega (arith, as_many (low + 1 + i) m rest (λ q. omega arith)))
passed_by {n} {low} {w} {words} {left} {m} {all} {rest} p l a b (inr o) = passed_on p l a b refl (λ i h. omega (arith, as_many (low + 1 + i) m rest (λ q. omega arith)))

pub passed_marked : {n low w : ℕ} {words words' : List ℕ} {left m : ℕ} {all rest : List ℕ} → Passed n low w words left all (m ∷ rest) → 0 < left → m ≤ n → low < m → length words' ≡ length words → Marked words (m - low - 1) words' → Passed n low w words' (left - 1) all rest
passed_marked {n} {low} {w} {words} {words'} {left} {m} {all} {rest} p l b o e k = passed_on p l (omega arith) b e (λ i h. on i (cases_Bool (eqb i (m - low - 1))))
  where
    on : (i : ℕ) → (eqb i (m - low - 1) ≡ true) ⊎ (eqb i (m - low - 1) ≡ false) → mark_at words i + occurrences (low + 1 + i) (m ∷ rest) ≡ mark_at words' i + occurrences (low + 1 + i) rest
    on i (inl t) =
        let q : i ≡ m - low - 1 = eqb-true i (m - low - 1) t in
        let r : low + 1 + i ≡ m = omega arith in
        omega (arith, ap (mark_at words) q, ap (mark_at words') q, k.unmarked, k.marked, ap (λ j. occurrences j (m ∷ rest)) r, ap (λ j. occurrences j rest) r, one_more m rest)
    on i (inr t) =
        let d : i ≡ m - low - 1 → ⊥ = eqb-false i (m - low - 1) t in
        omega (arith, k.others i d, as_many (low + 1 + i) m rest (λ q. d (omega arith)))

-- ---- what a walk answers

passed_all : {n low w : ℕ} {words : List ℕ} {left : ℕ} {all : List ℕ} → Passed n low w words left all [] → left ≡ 0 → Clear n low w all
unfolding occurrences
passed_all {n} {low} {w} {words} {left} {all} p e = record {
  count = omega (arith, p.count);
  range = omega (arith, p.range, p.count, within_none n);
  single = λ i h. omega (arith, p.marks i h, mark_below words i);
}

too_few : {n low w : ℕ} {words : List ℕ} {left : ℕ} {all : List ℕ} → Passed n low w words left all [] → (left ≡ 0 → ⊥) → each_once n all ≡ false
too_few {n} {low} {w} {words} {left} {all} p d = not_each n all (λ l r s. d (omega (arith, p.count)))

-- behind the last number none may be missing
pub passed_end : {n low w : ℕ} {words : List ℕ} {left : ℕ} (b : ℕ) {all xs : List ℕ} → xs ≡ [] → Passed n low w words left all (lowered_by b xs) → Window n low w all (eqb left 0)
passed_end {n} {low} {w} {words} {left} b {all} {xs} e p = on (eqb left 0) refl (subst (Passed n low w words left all) (lowered_none b e) p)
  where
    on : (t : Bool) → eqb left 0 ≡ t → Passed n low w words left all [] → Window n low w all t
    on true t q = passed_all q (eqb-true left 0 t)
    on false t q = too_few q (eqb-false left 0 t)

pub too_many : {n low w : ℕ} {words : List ℕ} {left m : ℕ} {all rest : List ℕ} → Passed n low w words left all (m ∷ rest) → left ≡ 0 → each_once n all ≡ false
too_many {n} {low} {w} {words} {left} {m} {all} {rest} p e = not_each n all (λ l r s. absurd (omega (arith, p.count)))

pub beyond : {n low w : ℕ} {words : List ℕ} {left m : ℕ} {all rest : List ℕ} → Passed n low w words left all (m ∷ rest) → (m ≡ 0) ⊎ (n < m) → each_once n all ≡ false
beyond {n} {low} {w} {words} {left} {m} {all} {rest} p o = not_each n all (λ l r s. absurd (omega (arith, p.range, within_out n m rest o, within_most n rest)))

pub twice : {n low w : ℕ} {words : List ℕ} {left m : ℕ} {all rest : List ℕ} → Passed n low w words left all (m ∷ rest) → m ≤ n → low < m → m ≤ low + 64 * w → mark_at words (m - low - 1) ≡ 1 → each_once n all ≡ false
twice {n} {low} {w} {words} {left} {m} {all} {rest} p b o h e =
    let r : low + 1 + (m - low - 1) ≡ m = omega arith in
    not_each n all (λ l k s. absurd (omega (arith, p.marks (m - low - 1) (omega arith), ap (λ j. occurrences j (m ∷ rest)) r, ap (λ j. occurrences j all) r, one_more m rest, s m (omega arith) b)))

-- ---- all windows

-- of the numbers up to n, none above so many stands twice
unfoldable pub Singles : (n above : ℕ) → List ℕ → Type 0
Singles n above ks = (m : ℕ) → above < m → m ≤ n → occurrences m ks ≤ 1

pub singles_none : (n : ℕ) (ks : List ℕ) → Singles n n ks
unfolding Singles
singles_none n ks m l h = absurd (omega arith)

pub singles_more : {n low w above : ℕ} {ks : List ℕ} → Clear n low w ks → above ≤ low + 64 * w → Singles n above ks → Singles n low ks
unfolding Singles
singles_more {n} {low} {w} {above} {ks} p a s m l h = on (cases_Bool (leb m above))
  where
    on : (leb m above ≡ true) ⊎ (leb m above ≡ false) → occurrences m ks ≤ 1
    on (inl t) =
        let r : low + 1 + (m - low - 1) ≡ m = omega arith in
        omega (arith, p.single (m - low - 1) (omega (arith, leb-true m above t)), ap (λ j. occurrences j ks) r)
    on (inr t) = s m (leb-false m above t) h

pub singles_all : {n low w above : ℕ} {ks : List ℕ} → Clear n low w ks → above ≤ low + 64 * w → low ≡ 0 → Singles n above ks → each_once n ks ≡ true
unfolding Singles
singles_all {n} {low} {w} {above} {ks} p a e s = each_from n ks p.count p.range (λ m l h. singles_more p a s m (omega arith) h)
