-- Laws of `run` and `all`: how a scan byte by byte, or block by block, finds where a run ends.
-- Main statements: `scan_step`, `scan_block`, `scan_stop`, `scan_end`, `all_more`; `all_on`, `all_refused`, `all_last` for a test of all.
-- Assumes nothing.
use mathlib.Core.Path.{◌≡◌, refl, sym, ap, subst, ◌∙◌}
use mathlib.Core.Bool.{Bool, true, false, ◌&&◌, false≢true, and-true, and_assoc}
use Prim.Native.Nat.{ℕ, zero, suc, ◌+◌, ◌-◌, ◌*◌, ◌/◌, ◌%◌, ◌≤◌, ◌<◌}
use native.Mathlib.Nat.{le_of_suc-le-suc, not-suc-le-zero}
use native.Mathlib.Numerals.{add-one}
use native.Mathlib.Omega.{arith}
use mathlib.Core.List.{List, [], ◌∷◌, ◌++◌}
use lib.Dec.{eqb, eqb-suc-suc, eqb-zero-suc}
use lib.ListN.{length, get_or, take, drop, length-drop, take-append-drop}
use lib.Seq.{take-suc, take_all, take-length, drop-cons, drop-drop, get_or-drop}
use Rattle.std.specs.List.{list_all}
use Rattle.std.specs.Simd.{first_chunks}
use Rattle.std.proofs.Math.Nat.{mul-zero, mul-suc, div-add-mod, mod-lt}
use Rattle.field.specs.Bytes.{Bytes, pick}
use Rattle.text.specs.Runs.{run, all}

pub run_le : (p : ℕ → Bool) (t : Bytes) → run p t ≤ length t
unfolding run
run_le p [] = omega arith
run_le p (c ∷ cs) = on (p c) (run_le p cs)
  where
    on : (b : Bool) → run p cs ≤ length cs → pick b (suc (run p cs)) 0 ≤ suc (length cs)
    on true h = omega arith
    on false h = omega arith

-- what the first byte did, by the run's length
pub run_zero : (p : ℕ → Bool) (c : ℕ) (cs : Bytes) → run p (c ∷ cs) ≡ 0 → p c ≡ false
unfolding run
run_zero p c cs h = on (p c) h
  where
    on : (b : Bool) → pick b (suc (run p cs)) 0 ≡ 0 → b ≡ false
    on true q = absurd (omega arith)
    on false q = refl

pub run_suc : (p : ℕ → Bool) (c : ℕ) (cs : Bytes) (k : ℕ) → run p (c ∷ cs) ≡ suc k → (p c ≡ true) × (run p cs ≡ k)
unfolding run
run_suc p c cs k h = on (p c) h
  where
    on : (b : Bool) → pick b (suc (run p cs)) 0 ≡ suc k → (b ≡ true) × (run p cs ≡ k)
    on true q = (refl, omega arith)
    on false q = absurd (omega arith)

-- a byte that passes
run_cons : (p : ℕ → Bool) (c : ℕ) (cs : Bytes) → p c ≡ true → run p (c ∷ cs) ≡ suc (run p cs)
unfolding run
run_cons p c cs h = rw h

-- a byte that does not
run_stop : (p : ℕ → Bool) (s : Bytes) (i : ℕ) → i < length s → p (get_or s i 0) ≡ false → run p (drop i s) ≡ 0
unfolding run
run_stop p s i h e = rw (drop-cons s i 0) (rw e)

-- no byte left
run_end : (p : ℕ → Bool) (s : Bytes) (i : ℕ) → length s ≤ i → run p (drop i s) ≡ 0
unfolding run
run_end p [] zero h = refl
run_end p [] (suc i) h = refl
run_end p (c ∷ cs) zero h = absurd (not-suc-le-zero h)
run_end p (c ∷ cs) (suc i) h = run_end p cs i (le_of_suc-le-suc h)

-- a block in which every byte passes
run_take : (p : ℕ → Bool) (k : ℕ) (t : Bytes) → k ≤ length t → all p (take k t) ≡ true → run p t ≡ k + run p (drop k t)
unfolding all run
run_take p zero t h e = omega arith
run_take p (suc k) [] h e = absurd (not-suc-le-zero h)
run_take p (suc k) (c ∷ cs) h e = on (p c) e (run_take p k cs (le_of_suc-le-suc h))
  where
    on : (b : Bool) → (b && all p (take k cs)) ≡ true → (all p (take k cs) ≡ true → run p cs ≡ k + run p (drop k cs)) → pick b (suc (run p cs)) 0 ≡ suc k + run p (drop k cs)
    on true q f = omega (arith, f q)
    on false q f = absurd (false≢true q)

-- ---- a scan from i on that has passed bytes so far: r is where the run that it looks for ends

pub scan_step : {r : ℕ} (p : ℕ → Bool) (s : Bytes) (i : ℕ) → i < length s → p (get_or s i 0) ≡ true → i + run p (drop i s) ≡ r → i + 1 + run p (drop (i + 1) s) ≡ r
scan_step p s i h e q = rw add-one (omega (arith, rw (drop-cons s i 0, run_cons p (get_or s i 0) (drop (suc i) s) e) at q))

pub scan_block : {r : ℕ} (p : ℕ → Bool) (s : Bytes) (i k : ℕ) → i + k ≤ length s → all p (take k (drop i s)) ≡ true → i + run p (drop i s) ≡ r → i + k + run p (drop (i + k) s) ≡ r
scan_block p s i k h e q =
    let l : k ≤ length (drop i s) = rw length-drop (omega arith) in
    omega (arith, rw drop-drop at (run_take p k (drop i s) l e))

pub scan_stop : {r : ℕ} (p : ℕ → Bool) (s : Bytes) (i : ℕ) → i < length s → p (get_or s i 0) ≡ false → i + run p (drop i s) ≡ r → i ≡ r
scan_stop p s i h e q = omega (arith, run_stop p s i h e)

pub scan_end : {r : ℕ} (p : ℕ → Bool) (s : Bytes) (i : ℕ) → length s ≤ i → i + run p (drop i s) ≡ r → i ≡ r
scan_end p s i h q = omega (arith, run_end p s i h)

-- one byte more
pub all_snoc : (p : ℕ → Bool) (t : Bytes) (c : ℕ) → all p (t ++ (c ∷ [])) ≡ (all p t && p c)
unfolding all
all_snoc p [] c = and-true (p c)
all_snoc p (d ∷ t) c = rw (all_snoc p t c) (sym (and_assoc (p d) (all p t) (p c)))

pub all_more : {is r : Bool} (p : ℕ → Bool) (s : Bytes) (at k : ℕ) → at + k < length s → is ≡ all p (take k (drop at s)) → r ≡ p (get_or s (at + k) 0) → (is && r) ≡ all p (take (k + 1) (drop at s))
all_more p s at k h ei er =
    let l : k < length (drop at s) = rw length-drop (omega arith) in
    let snoc = all_snoc p (take k (drop at s)) (get_or (drop at s) k 0) in
    rw (ei, er) (sym (rw (add-one, take-suc (drop at s) k 0 l) (snoc ∙ rw get_or-drop)))

-- where a run ends lies behind where it begins, and within the bytes
pub scan_le : {r : ℕ} (p : ℕ → Bool) (s : Bytes) (at : ℕ) → at ≤ length s → r ≡ at + run p (drop at s) → (at ≤ r) × (r ≤ length s)
scan_le p s at h e = (omega arith, omega (arith, rw length-drop at (run_le p (drop at s))))

-- every byte of a run passes
pub run_all : (p : ℕ → Bool) (t : Bytes) → all p (take (run p t) t) ≡ true
unfolding run all
run_all p [] = refl
run_all p (c ∷ cs) = on (p c) refl (run_all p cs)
  where
    on : (b : Bool) → p c ≡ b → all p (take (run p cs) cs) ≡ true → all p (take (pick b (suc (run p cs)) 0) (c ∷ cs)) ≡ true
    on true e ih = rw (e, ih)
    on false e ih = refl

pub all_append : (p : ℕ → Bool) (a b : Bytes) → all p (a ++ b) ≡ (all p a && all p b)
unfolding all
all_append p [] b = refl
all_append p (c ∷ a) b = rw (all_append p a b) (sym (and_assoc (p c) (all p a) (all p b)))

-- a run that has begun ends further on
pub scan_on : {r : ℕ} (p : ℕ → Bool) (s : Bytes) (i : ℕ) → i < length s → p (get_or s i 0) ≡ true → r ≡ i + run p (drop i s) → i < r
scan_on p s i h e q = omega (arith, rw (drop-cons s i 0, run_cons p (get_or s i 0) (drop (suc i) s) e) at q)

-- the same run looked for from its second byte on
pub scan_back : {r : ℕ} (p : ℕ → Bool) (s : Bytes) (i : ℕ) → i < length s → p (get_or s i 0) ≡ true → r ≡ i + 1 + run p (drop (i + 1) s) → r ≡ i + run p (drop i s)
scan_back p s i h e q = q ∙ scan_step p s i h e refl

-- ---- the last block, which may begin in front of the place

pub run_whole : (p : ℕ → Bool) (t : Bytes) → all p t ≡ true → run p t ≡ length t
run_whole p t h =
    let e = run_take p (length t) t (omega arith) (rw take-length h) in
    omega (arith, run_le p (drop (length t) t), length-drop (length t) t)

all_drop : (p : ℕ → Bool) (j : ℕ) (t : Bytes) → all p t ≡ true → all p (drop j t) ≡ true
unfolding all
all_drop p zero t h = h
all_drop p (suc j) [] h = refl
all_drop p (suc j) (c ∷ cs) h = all_drop p j cs (on (p c) h)
  where
    on : (b : Bool) → (b && all p cs) ≡ true → all p cs ≡ true
    on true q = q
    on false q = absurd (false≢true q)

pub scan_last : {r : ℕ} (p : ℕ → Bool) (s : Bytes) (i k : ℕ) → i ≤ length s → k ≤ length s → length s - i < k → all p (take k (drop (length s - k) s)) ≡ true → i + run p (drop i s) ≡ r → length s ≡ r
scan_last p s i k h l w e q =
    let m = length s - k in
    let j : m + (i - m) ≡ i = omega arith in
    let block = take_all k (drop m s) (rw length-drop (omega arith)) in
    let whole : all p (drop i s) ≡ true = rw (← j, ← drop-drop (i - m) m s) (all_drop p (i - m) (drop m s) (rw block at e)) in
    omega (arith, run_whole p (drop i s) whole, length-drop i s)

-- ---- a test of all bytes that has passed those in front of i: r is its answer

all_cut : (p : ℕ → Bool) (s : Bytes) (i k : ℕ) → all p (drop i s) ≡ (all p (take k (drop i s)) && all p (drop (i + k) s))
all_cut p s i k =
    ap (all p) (sym (take-append-drop k (drop i s)))
    ∙ all_append p (take k (drop i s)) (drop k (drop i s))
    ∙ ap (λ (t : Bytes). all p (take k (drop i s)) && all p t) (drop-drop k i s)

module _ {r : Bool} (p : ℕ → Bool) (s : Bytes) (i k : ℕ) (sofar : all p (drop i s) ≡ r) where
  pub all_on : all p (take k (drop i s)) ≡ true → all p (drop (i + k) s) ≡ r
  all_on e = sym (all_cut p s i k ∙ ap (λ (b : Bool). b && all p (drop (i + k) s)) e) ∙ sofar

  pub all_refused : all p (take k (drop i s)) ≡ false → false ≡ r
  all_refused e = sym (all_cut p s i k ∙ ap (λ (b : Bool). b && all p (drop (i + k) s)) e) ∙ sofar

-- the last block, which may begin in front of the place
pub all_last : (p : ℕ → Bool) (s : Bytes) (i k : ℕ) → i ≤ length s → k ≤ length s → length s - i < k → all p (drop i s) ≡ all p s → all p (take k (drop (length s - k) s)) ≡ all p s
all_last p s i k h l w q =
    let m = length s - k in
    let j : m + (i - m) ≡ i = omega arith in
    let back : drop (i - m) (drop m s) ≡ drop i s = drop-drop (i - m) m s ∙ ap (λ (x : ℕ). drop x s) j in
    rw (take_all k (drop m s) (rw length-drop (omega arith)))
    (both (all p (drop m s)) (all p s) refl refl (λ e. sym q ∙ ap (all p) (sym back) ∙ all_drop p (i - m) (drop m s) e))
  where
    both : (a b : Bool) → all p (drop (length s - k) s) ≡ a → all p s ≡ b → (all p (drop (length s - k) s) ≡ true → all p s ≡ true) → a ≡ b
    both true b ea eb f = sym (f ea) ∙ eb
    both false false ea eb f = refl
    both false true ea eb f = sym ea ∙ all_drop p (length s - k) s eb

-- all bytes pass where the run is the whole text
pub run_is_all : (p : ℕ → Bool) (t : Bytes) → eqb (run p t) (length t) ≡ all p t
unfolding run all
run_is_all p [] = refl
run_is_all p (c ∷ cs) = on (p c) (run_is_all p cs)
  where
    on : (b : Bool) → eqb (run p cs) (length cs) ≡ all p cs → eqb (pick b (suc (run p cs)) 0) (suc (length cs)) ≡ (b && all p cs)
    on true e = rw (eqb-suc-suc, e)
    on false e = eqb-zero-suc (length cs)

-- each byte by itself, as the library asks
pub each_is : (p : ℕ → Bool) (t : Bytes) → list_all p t ≡ all p t
unfolding all
each_is p [] = refl
each_is p (c ∷ cs) = ap (λ (b : Bool). p c && b) (each_is p cs)

-- ---- the blocks of k bytes that s has in front

block_at : (k n i : ℕ) (s d : Bytes) → i < n → get_or (first_chunks k n s) i d ≡ take k (drop (k * i) s)
block_at k zero i s d h = absurd (not-suc-le-zero h)
block_at k (suc n) zero s d h = rw mul-zero refl
block_at k (suc n) (suc i) s d h =
    let e : k + k * i ≡ k * suc i = omega (arith, mul-suc k i) in
    block_at k n i (drop k s) d (le_of_suc-le-suc h) ∙ ap (take k) (drop-drop (k * i) k s ∙ ap (λ (x : ℕ). drop x s) e)

pub chunk_is : (s d : Bytes) (bs : List Bytes) (k n i : ℕ) → bs ≡ first_chunks k n s → length bs ≡ n → i < length bs → get_or bs i d ≡ take k (drop (k * i) s)
chunk_is s d bs k n i e l h = ap (λ (z : List Bytes). get_or z i d) e ∙ block_at k n i s d (subst (λ (x : ℕ). i < x) l h)

pub behind_chunk : (k i : ℕ) → k * (i + 1) ≡ k * i + k
behind_chunk k i = rw add-one (mul-suc k i)

-- fewer than k bytes are left behind all of them
few_left : (a b r n k : ℕ) → a ≡ b → b + r ≡ n → r < k → (a ≤ n) × (n - a < k)
few_left a b r n k e f h = (omega arith, omega arith)

pub chunks_last : (p : ℕ → Bool) (s : Bytes) (k i n : ℕ) → 0 < k → k ≤ length s → i ≡ n → n ≡ length s / k → all p (drop (k * i) s) ≡ all p s → all p (take k (drop (length s - k) s)) ≡ all p s
chunks_last p s k i n z h a b q =
    let f = few_left (k * i) (k * (length s / k)) (length s % k) (length s) k (ap (λ (x : ℕ). k * x) (a ∙ b)) (div-add-mod (length s) k) (mod-lt (length s) z) in
    all_last p s (k * i) k f.0 h f.1 q

-- a block of k bytes, and the last k, as slices
pub block_is : {r : Bool} (p : ℕ → Bool) (s : Bytes) (i k : ℕ) → r ≡ all p (take (i + k - i) (drop i s)) → r ≡ all p (take k (drop i s))
block_is p s i k e = let h : i + k - i ≡ k = omega arith in rw h at e

pub last_is : {r : Bool} (p : ℕ → Bool) (s : Bytes) (k : ℕ) → k ≤ length s → r ≡ all p (take (length s - (length s - k)) (drop (length s - k) s)) → r ≡ all p (take k (drop (length s - k) s))
last_is p s k l e = let h : length s - (length s - k) ≡ k = omega arith in rw h at e
