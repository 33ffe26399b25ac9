-- A run grows by a byte, and ends. Main statements: `next`, `running_none`, `tested_on`, `tested_stops`, `ran_out`,
-- `any_some`, `all_others`, `not_all`. Assumes nothing.
use Prim.Native.Nat.{ℕ, suc, ◌+◌, ◌-◌, ◌≤◌, ◌<◌}
use mathlib.Core.Path.{◌≡◌, refl, sym, ◌∙◌, ap, subst}
use mathlib.Core.Bool.{Bool, true, false, ◌&&◌, ◌||◌, not, false≢true}
use mathlib.Core.List.{[], ◌∷◌, ◌++◌}
use native.Mathlib.Omega.{arith}
use native.Mathlib.Numerals.{add-one}
use lib.Dec.{T}
use lib.ListN.{length, take, drop, get_or, length-append, length-drop, drop_of_length-le}
use lib.Seq.{drop-cons, drop-drop, take_at}
use Rattle.std.specs.List.{list_any, list_all}
use Rattle.field.specs.Bytes.{Bytes, pick}
use Rattle.text.specs.Runs.{run, all}
use Rattle.text.proofs.RunLaws.{run_le}
use Rattle.grammar.specs.Signs.{each, some_byte}
use Rattle.grammar.specs.Grammar.{Ends, Run, run_ends, run_on}
use Rattle.read_tag.specs.Runs.{Ran}

-- a byte further
pub next : (s : Bytes) (k : ℕ) → k < length s → drop k s ≡ get_or s k 0 ∷ drop (k + 1) s
next s k h = rw (add-one k) (drop-cons s k 0 h)

-- bytes of the sort p in front, whatever follows
pub data Front (p : ℕ → Bool) : Bytes → Bytes → Bytes → Type 0 where
  front_none : {s : Bytes} → Front p s [] s
  front_on : {c : ℕ} {s w r : Bytes} → T (p c) → Front p s w r → Front p (c ∷ s) (c ∷ w) r

-- what a loop over a run knows at k
pub record Running (p : ℕ → Bool) (s : Bytes) (i k : ℕ) : Type 0 where
  pub after : i ≤ k
  pub inside : k ≤ length s
  pub read : Bytes
  pub front : Front p (drop i s) read (drop k s)
  pub counted : i + length read ≡ k

module _ (p : ℕ → Bool) where
  front_more : {s w r : Bytes} {c : ℕ} → Front p s w (c ∷ r) → T (p c) → Front p s (w ++ (c ∷ [])) r
  front_more front_none t = front_on t front_none
  front_more (front_on u f) t = front_on u (front_more f t)

  front_run : {s w r : Bytes} → Front p s w r → Ends p r → Run p s w r
  front_run front_none e = run_ends e
  front_run (front_on t f) e = run_on t (front_run f e)

  front_is : {s w r : Bytes} → Front p s w r → s ≡ w ++ r
  front_is front_none = refl
  front_is (front_on {c} t f) = ap (λ (z : Bytes). c ∷ z) (front_is f)

  module _ (s : Bytes) (i : ℕ) where
    pub running_none : i ≤ length s → Running p s i i
    running_none h = record { after = omega arith; inside = h; read = []; front = front_none; counted = omega arith }

    pub running_on : (k : ℕ) → Running p s i k → k < length s → T (p (get_or s k 0)) → Running p s i (k + 1)
    running_on k u h t =
        record {
          after = omega (arith, u.after);
          inside = omega arith;
          read = u.read ++ (get_or s k 0 ∷ []);
          front = front_more (subst (λ (z : Bytes). Front p (drop i s) u.read z) (next s k h) u.front) t;
          counted = omega (arith, u.counted, length-append u.read (get_or s k 0 ∷ []));
        }

    ran_from : (k : ℕ) → Running p s i k → Ends p (drop k s) → Ran p s i k
    ran_from k u e =
        let q : take (k - i) (drop i s) ≡ u.read = ap (take (k - i)) (front_is u.front) ∙ take_at u.read (drop k s) (k - i) (omega (arith, u.counted)) in
        record { after = u.after; inside = u.inside; run = subst (λ (w : Bytes). Run p (drop i s) w (drop k s)) (sym q) (front_run u.front e) }

    -- at a byte that is none of them; at the end of the text
    pub ran_stops : (k : ℕ) → Running p s i k → k < length s → T (not (p (get_or s k 0))) → Ran p s i k
    unfolding Ends
    ran_stops k u h t = ran_from k u (subst (Ends p) (sym (next s k h)) t)

    pub ran_out : (k : ℕ) → Running p s i k → length s ≤ k → Ran p s i k
    unfolding Ends
    ran_out k u h = ran_from k u (subst (Ends p) (sym (drop_of_length-le s h)) tt)

    -- the same by what a test of the byte answered
    pub tested_on : (k : ℕ) (b : Bool) → Running p s i k → k < length s → b ≡ p (get_or s k 0) → not b ≡ false → Running p s i (k + 1)
    tested_on k b u h e f = running_on k u h (on (p (get_or s k 0)) (ap not (sym e) ∙ f))
      where
        on : (x : Bool) → not x ≡ false → T x
        on true g = tt
        on false g = absurd (false≢true (sym g))

    pub tested_stops : (k : ℕ) (b : Bool) → Running p s i k → k < length s → b ≡ p (get_or s k 0) → not b ≡ true → Ran p s i k
    tested_stops k b u h e f = ran_stops k u h (subst T (sym (ap not (sym e) ∙ f)) tt)

-- ---- a byte of the sort somewhere

pub any_some : (p : ℕ → Bool) (s : Bytes) → list_any p s ≡ some_byte p s
unfolding each
any_some p [] = refl
any_some p (c ∷ s) = on (p c) (any_some p s)
  where
    on : (b : Bool) → list_any p s ≡ some_byte p s → (b || list_any p s) ≡ not (not b && each (λ d. not (p d)) s)
    on true e = refl
    on false e = e

-- all are others
pub all_others : (p : ℕ → Bool) (s : Bytes) → list_all (λ c. not (p c)) s ≡ not (some_byte p s)
unfolding each
all_others p [] = refl
all_others p (c ∷ s) = on (p c) (all_others p s)
  where
    on : (b : Bool) → list_all (λ c. not (p c)) s ≡ not (some_byte p s) → (not b && list_all (λ c. not (p c)) s) ≡ not (not (not b && each (λ d. not (p d)) s))
    on true e = refl
    on false e = e

-- and of all others none
pub not_all : (p : ℕ → Bool) (s : Bytes) → not (all (λ c. not (p c)) s) ≡ list_any p s
unfolding all
not_all p [] = refl
not_all p (c ∷ s) = on (p c) (not_all p s)
  where
    on : (b : Bool) → not (all (λ d. not (p d)) s) ≡ list_any p s → not (not b && all (λ d. not (p d)) s) ≡ (b || list_any p s)
    on true e = refl
    on false e = e

-- ---- what text's run_end answers

run_of : (p : ℕ → Bool) (t : Bytes) → Run p t (take (run p t) t) (drop (run p t) t)
unfolding run Ends
run_of p [] = run_ends tt
run_of p (c ∷ cs) = on (p c) refl (run_of p cs)
  where
    on : (b : Bool) → p c ≡ b → Run p cs (take (run p cs) cs) (drop (run p cs) cs) → Run p (c ∷ cs) (take (pick b (suc (run p cs)) 0) (c ∷ cs)) (drop (pick b (suc (run p cs)) 0) (c ∷ cs))
    on true e q = run_on (subst T (sym e) tt) q
    on false e q = run_ends (subst (λ (b : Bool). T (not b)) (sym e) tt)

pub ran : {r : ℕ} (p : ℕ → Bool) (s : Bytes) (i : ℕ) → i ≤ length s → r ≡ i + run p (drop i s) → Ran p s i r
ran {r} p s i h e =
    let n : run p (drop i s) ≡ r - i = omega arith in
    let l : r ≤ length s = omega (arith, run_le p (drop i s), length-drop i s) in
    let back : drop (r - i) (drop i s) ≡ drop r s = drop-drop (r - i) i s ∙ ap (λ (k : ℕ). drop k s) (omega arith) in
    record { after = omega arith; inside = l; run = subst (λ (w : Bytes). Run p (drop i s) (take (r - i) (drop i s)) w) back (subst (λ (k : ℕ). Run p (drop i s) (take k (drop i s)) (drop k (drop i s))) n (run_of p (drop i s))) }
