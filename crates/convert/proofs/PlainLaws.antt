-- Bytes that are neither `<` nor `>` in a text, in front of others: there they change nothing, unless a `<` comes right before. Main statements:
-- `plain_on`, `plain_ends`, `run_begins`, `run_byte`, `run_block`, `front_is`, `first_over`. Assumes nothing.
use mathlib.Core.Path.{◌≡◌, refl, sym, ap, ap₂, ◌∙◌, subst}
use mathlib.Core.Bool.{Bool, true, false, not, ◌&&◌}
use mathlib.Core.List.{[], ◌∷◌, ◌++◌}
use Prim.Native.Nat.{ℕ, ◌+◌, ◌-◌, ◌≤◌, ◌<◌}
use native.Mathlib.Omega.{arith}
use native.Mathlib.Numerals.{add-one}
use lib.Dec.{eqb}
use lib.ListN.{length, take, drop, get_or, length-drop, take-append-drop, drop_of_length-le}
use lib.Seq.{take_all, drop-cons}
use Rattle.std.proofs.Math.Bool.{and_assoc}
use Rattle.std.proofs.lemmas.Bool.{not-true, and_parts}
use Rattle.field.specs.Bytes.{Bytes, pick}
use Rattle.convert.specs.Kinds.{passed, all_passed}
use Rattle.convert.specs.Flat.{plain, EndsRun}
use Rattle.convert.specs.declared.kinds.Markup.{Markup}
use Rattle.convert.specs.declared.kinds.Markup.TheVariants as M
use Rattle.convert.proofs.KindLaws.{passes_on}

-- ---- a block, byte by byte

module _ (s : Bytes) (i : ℕ) where
  pub plain_on : i < length s → (is : Bool) → ((is && (not (eqb (get_or s i 0) 60) && not (eqb (get_or s i 0) 62))) && plain (drop (i + 1) s)) ≡ (is && plain (drop i s))
  unfolding plain
  plain_on l is = and_assoc is (not (eqb (get_or s i 0) 60) && not (eqb (get_or s i 0) 62)) (plain (drop (i + 1) s)) ∙ sym (rw (add-one, drop-cons s i 0 l))

  pub plain_ends : length s ≤ i → (is : Bool) → (is && plain (drop i s)) ≡ is
  unfolding plain
  plain_ends h is = ap (λ (b : Bytes). is && plain b) (drop_of_length-le s h) ∙ and_true is
    where
      and_true : (b : Bool) → (b && true) ≡ b
      and_true true = refl
      and_true false = refl

-- ---- in front of others

-- one byte
module _ (x c : ℕ) (r : Bytes) (e : eqb x 60 ≡ false) (f : eqb x 62 ≡ false) where
  one_over : (m : Markup) → (m ≡ M.Entered → ⊥) → all_passed m (x ∷ c ∷ r) ≡ all_passed m (c ∷ r)
  unfolding all_passed passed
  one_over M.Outside n = ap₂ (λ (a b : Bool). all_passed (passed (pick a M.Entered (pick b M.Crossed M.Outside)) c) r) e f
  one_over M.Entered n = absurd (n refl)
  one_over M.Opening n = ap₂ (λ (a b : Bool). all_passed (passed (pick a M.Crossed (pick b M.Outside (pick (eqb x 32) M.Spaced M.Opening))) c) r) e f ∙ on (eqb x 32)
    where
      on : (b : Bool) → all_passed (passed (pick b M.Spaced M.Opening) c) r ≡ all_passed (passed M.Opening c) r
      on true = refl
      on false = refl
  one_over M.Spaced n = ap₂ (λ (a b : Bool). all_passed (passed (pick a M.Crossed (pick b M.Outside (pick (eqb x 32) M.Spaced M.Opening))) c) r) e f ∙ on (eqb x 32)
    where
      on : (b : Bool) → all_passed (passed (pick b M.Spaced M.Opening) c) r ≡ all_passed (passed M.Spaced c) r
      on true = refl
      on false = refl
  one_over M.Closing n = ap₂ (λ (a b : Bool). all_passed (passed (pick a M.Crossed (pick b M.Outside M.Closing)) c) r) e f
  one_over M.Crossed n = refl

module _ (m : Markup) (n : m ≡ M.Entered → ⊥) (c : ℕ) (r : Bytes) where
  all_over : (b : Bytes) → plain b ≡ true → all_passed m (b ++ (c ∷ r)) ≡ all_passed m (c ∷ r)
  unfolding plain
  all_over [] h = refl
  all_over (x ∷ []) h =
      let p = and_parts (not (eqb x 60)) (not (eqb x 62)) (and_parts (not (eqb x 60) && not (eqb x 62)) true h).0 in
      one_over x c r (not-true (eqb x 60) p.0) (not-true (eqb x 62) p.1) m n
  all_over (x ∷ y ∷ b) h =
      let q = and_parts (not (eqb x 60) && not (eqb x 62)) (plain (y ∷ b)) h in
      let p = and_parts (not (eqb x 60)) (not (eqb x 62)) q.0 in
      one_over x y (b ++ (c ∷ r)) (not-true (eqb x 60) p.0) (not-true (eqb x 62) p.1) m n ∙ all_over (y ∷ b) q.1

-- ---- a run

pub plain_one : (c : ℕ) → (not (eqb c 60) && not (eqb c 62)) ≡ plain (c ∷ [])
unfolding plain
plain_one c = on (not (eqb c 60) && not (eqb c 62))
  where
    on : (b : Bool) → b ≡ (b && true)
    on true = refl
    on false = refl

-- a byte, as a text of one
alone : (x : ℕ) (b : Bytes) → plain (x ∷ b) ≡ true → (plain (x ∷ []) ≡ true) × (plain b ≡ true)
unfolding plain
alone x b h = let p = and_parts (not (eqb x 60) && not (eqb x 62)) (plain b) h in (ap (λ (y : Bool). y && true) p.0, p.1)

pub run_begins : {c : ℕ} {s : Bytes} → plain (c ∷ []) ≡ true → EndsRun c s c s
run_begins h = record { last_is = h; passes = λ m n. record { same_end = refl; no_longer = omega arith } }

pub run_byte : {c d e : ℕ} {s t : Bytes} → EndsRun c s d (e ∷ t) → plain (e ∷ []) ≡ true → EndsRun c s e t
run_byte {d = d} {e} {t = t} r h =
    record {
      last_is = h;
      passes = λ m n.
          let p = r.passes m n in
          let l = p.no_longer in
          record { same_end = p.same_end ∙ all_over m n e t (d ∷ []) r.last_is; no_longer = omega arith };
    }

run_all : {c d : ℕ} {s t : Bytes} (x : ℕ) (b : Bytes) → EndsRun c s d (x ∷ (b ++ t)) → plain (x ∷ b) ≡ true → EndsRun c s (get_or (x ∷ b) (length b) 0) t
run_all x [] r h = run_byte r h
run_all x (y ∷ b) r h = let p = alone x (y ∷ b) h in run_all y b (run_byte r p.0) p.1

pub run_block : {c d : ℕ} {s l b t : Bytes} → EndsRun c s d l → b ≡ take 8 l → t ≡ drop 8 l → length b ≡ 8 → plain b ≡ true → EndsRun c s (get_or b 7 0) t
run_block {c} {d} {s} {l} {b} {t} r e f n h = on b n h (subst (EndsRun c s d) w r)
  where
    w : l ≡ b ++ t
    w = sym (ap₂ (λ (x y : Bytes). x ++ y) e f ∙ take-append-drop 8 l)

    on : (b : Bytes) → length b ≡ 8 → plain b ≡ true → EndsRun c s d (b ++ t) → EndsRun c s (get_or b 7 0) t
    on [] n h r = absurd (omega arith)
    on (x ∷ b) n h r =
        let k : length b ≡ 7 = omega arith in
        subst (λ (j : ℕ). EndsRun c s (get_or (x ∷ b) j 0) t) k (run_all x b r h)

-- a text by its first byte and the rest
pub front_is : (t : Bytes) → 0 < length t → t ≡ get_or t 0 0 ∷ take (length t - 1) (drop 1 t)
front_is t l = drop-cons t 0 0 l ∙ ap (λ (b : Bytes). get_or t 0 0 ∷ b) (sym (take_all (length t - 1) (drop 1 t) (omega (arith, length-drop 1 t))))

-- a run at the front of a text
pub run_over : (t : Bytes) {q p : Markup} {r : Bytes} {d : ℕ} → 0 < length t → (q ≡ M.Entered → ⊥) → EndsRun (get_or t 0 0) (take (length t - 1) (drop 1 t)) d r → p ≡ passed q d → all_passed q t ≡ all_passed p r
unfolding all_passed
run_over t {q} {p} {r} l n e k = ap (all_passed q) (front_is t l) ∙ (e.passes q n).same_end ∙ ap (λ (m : Markup). all_passed m r) (sym k)

-- the first byte of a text
pub first_over : (q : Markup) (t : Bytes) → 0 < length t → {p : Markup} → p ≡ passed q (get_or t 0 0) → all_passed q t ≡ all_passed p (take (length t - 1) (drop 1 t))
first_over q t l {p} e = passes_on q t 0 l e ∙ ap (all_passed p) (sym (take_all (length t - 1) (drop 1 t) (omega (arith, length-drop 1 t))))
