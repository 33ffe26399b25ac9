-- Laws of trimming: the white space character at either end by the bytes there, and how a walk over such characters trims.
-- Main statements: `space_one`, `space_two`, `space_three` and what says that none stands there, with `taken` and `none_there` for the
-- code's answers; `trim_step`, `trim_stop`, `trim_run`; `trim_on`, `trim_here`, and from the back `trim_back_on`, `trim_back_here`;
-- `length_trim_start`, `length_trim_end`; `trim_spaces`, `trim_visible`.
-- Assumes nothing.
use mathlib.Core.Path.{◌≡◌, refl, sym, ap, ◌∙◌}
use mathlib.Core.Bool.{Bool, true, false, or-true, and-false}
use Prim.Native.Nat.{ℕ, zero, suc, ◌-◌, ◌≤◌, ◌<◌}
use native.Mathlib.Nat.{le_of_suc-le-suc, not-suc-le-zero}
use native.Mathlib.Omega.{arith}
use mathlib.Core.List.{[], ◌∷◌, ◌++◌, reverse, reverse-cons, reverse-append, reverse-reverse}
use lib.ListN.{length, get_or, take, drop, length-drop, length-reverse, drop_of_length-le}
use lib.Seq.{take_all}
use borrow.Author.Tests.{eq-eqb, ne_eqb, lt-leb}
use Rattle.field.specs.Bytes.{Bytes, pick}
use Rattle.text.specs.Runs.{run, all, is_space}
use Rattle.text.specs.Trim.{one_byte_space, two_byte_space, three_byte_space, space_by, front_space, back_space, trim_by, trim_start, trim_end}
use Rattle.std.specs.Prelude.{Option, MatchOption}
use Rattle.std.specs.Bool.{then_some}
use Rattle.text.proofs.RunLaws.{run_whole}

-- ---- the character in front, by its bytes

module _ (two : ℕ → ℕ → Bool) (three : ℕ → ℕ → ℕ → Bool) where
  pub space_one : (a : ℕ) (t : Bytes) → one_byte_space a ≡ true → space_by two three (a ∷ t) ≡ 1
  unfolding space_by
  space_one a [] h = rw h
  space_one a (b ∷ []) h = rw h
  space_one a (b ∷ c ∷ t) h = rw h

  -- a byte that begins none of several bytes
  pub space_low : (a : ℕ) (t : Bytes) → one_byte_space a ≡ false → ((b : ℕ) → two a b ≡ false) → ((b c : ℕ) → three a b c ≡ false) → space_by two three (a ∷ t) ≡ 0
  unfolding space_by
  space_low a [] h f g = rw h
  space_low a (b ∷ []) h f g = rw (h, f b)
  space_low a (b ∷ c ∷ t) h f g = rw (h, f b, g b c)

  pub space_single : (a : ℕ) → one_byte_space a ≡ false → space_by two three (a ∷ []) ≡ 0
  unfolding space_by
  space_single a h = rw h

  pub space_two : (a b : ℕ) (t : Bytes) → one_byte_space a ≡ false → two a b ≡ true → space_by two three (a ∷ b ∷ t) ≡ 2
  unfolding space_by
  space_two a b [] h f = rw (h, f)
  space_two a b (c ∷ t) h f = rw (h, f)

  pub space_pair : (a b : ℕ) → one_byte_space a ≡ false → two a b ≡ false → space_by two three (a ∷ b ∷ []) ≡ 0
  unfolding space_by
  space_pair a b h f = rw (h, f)

  pub space_three : (a b c : ℕ) (t : Bytes) → one_byte_space a ≡ false → two a b ≡ false → space_by two three (a ∷ b ∷ c ∷ t) ≡ pick (three a b c) 3 0
  unfolding space_by
  space_three a b c t h f = rw (h, f)

  space_le : (t : Bytes) → space_by two three t ≤ length t
  unfolding space_by
  space_le [] = omega arith
  space_le (a ∷ []) = on (one_byte_space a)
    where
      on : (x : Bool) → pick x 1 0 ≤ 1
      on true = omega arith
      on false = omega arith
  space_le (a ∷ b ∷ []) = on (one_byte_space a) (two a b)
    where
      on : (x y : Bool) → pick x 1 (pick y 2 0) ≤ 2
      on true y = omega arith
      on false true = omega arith
      on false false = omega arith
  space_le (a ∷ b ∷ c ∷ cs) = on (one_byte_space a) (two a b) (three a b c)
    where
      on : (x y z : Bool) → pick x 1 (pick y 2 (pick z 3 0)) ≤ suc (suc (suc (length cs)))
      on true y z = omega arith
      on false true z = omega arith
      on false false true = omega arith
      on false false false = omega arith

-- the character begins with a byte of at least C2, and ends with one of at least 80
pub low_two : (a b : ℕ) → a < 0xc2 → two_byte_space a b ≡ false
unfolding two_byte_space
low_two a b h = rw (ne_eqb a 0xc2 (λ e. omega arith))

pub low_three : (a b c : ℕ) → a < 0xc2 → three_byte_space a b c ≡ false
unfolding three_byte_space
low_three a b c h = rw (ne_eqb a 0xe1 (λ e. omega arith), ne_eqb a 0xe2 (λ e. omega arith), ne_eqb a 0xe3 (λ e. omega arith))

pub last_two : (a b : ℕ) → b < 0x80 → two_byte_space a b ≡ false
unfolding two_byte_space
last_two a b h = rw (ne_eqb b 0x85 (λ e. omega arith), ne_eqb b 0xa0 (λ e. omega arith), and-false)

pub last_three : (a b c : ℕ) → c < 0x80 → three_byte_space a b c ≡ false
unfolding three_byte_space
last_three a b c h =
    simp (ne_eqb c 0x80 (λ e. omega arith), lt-leb 0x80 c h, ne_eqb c 0xa8 (λ e. omega arith), ne_eqb c 0xa9 (λ e. omega arith), ne_eqb c 0xaf (λ e. omega arith), ne_eqb c 0x9f (λ e. omega arith), and-false)

pub front_le : (t : Bytes) → front_space t ≤ length t
unfolding front_space
front_le t = space_le two_byte_space three_byte_space t

pub back_le : (t : Bytes) → back_space t ≤ length t
unfolding back_space
back_le t = space_le (λ b a. two_byte_space a b) (λ c b a. three_byte_space a b c) t

-- ---- a walk over characters

trim_skip : (space : Bytes → ℕ) (k : ℕ) (t : Bytes) → trim_by space k t ≡ trim_by space 0 (drop k t)
unfolding trim_by
trim_skip space zero [] = refl
trim_skip space (suc k) [] = refl
trim_skip space zero (c ∷ cs) = refl
trim_skip space (suc k) (c ∷ cs) = trim_skip space k cs

pub trim_step : (space : Bytes → ℕ) (t : Bytes) (n : ℕ) → n ≡ space t → trim_by space 0 t ≡ trim_by space 0 (drop n t)
unfolding trim_by
trim_step space [] zero e = refl
trim_step space [] (suc n) e = refl
trim_step space (c ∷ cs) zero e = refl
trim_step space (c ∷ cs) (suc n) e = rw (sym e, trim_by) (trim_skip space n cs)

pub trim_stop : (space : Bytes → ℕ) (t : Bytes) → 0 ≡ space t → trim_by space 0 t ≡ t
unfolding trim_by
trim_stop space [] e = refl
trim_stop space (c ∷ cs) e = rw (sym e, trim_by)

length_trim_by : (space : Bytes → ℕ) (k : ℕ) (t : Bytes) → length (trim_by space k t) ≤ length t
unfolding trim_by
length_trim_by space zero [] = omega arith
length_trim_by space (suc k) [] = omega arith
length_trim_by space (suc k) (c ∷ cs) = omega (arith, length_trim_by space k cs)
length_trim_by space zero (c ∷ cs) = on (space (c ∷ cs)) (λ k. length_trim_by space k cs)
  where
    on : (n : ℕ) → ((k : ℕ) → length (trim_by space k cs) ≤ length cs) → length {A = ℕ} (elim n [ zero ↦ c ∷ cs | suc k ↦ trim_by space k cs ]) ≤ suc (length cs)
    on zero f = omega arith
    on (suc k) f = omega (arith, f k)

pub length_trim_start : (t : Bytes) → length (trim_start t) ≤ length t
unfolding trim_start
length_trim_start t = length_trim_by front_space 0 t

pub length_trim_end : (t : Bytes) → length (trim_end t) ≤ length t
unfolding trim_end
length_trim_end t = rw length-reverse (omega (arith, length_trim_by back_space 0 (reverse t), length-reverse t))

-- spaces in front
space_is_one : (c : ℕ) → is_space c ≡ true → one_byte_space c ≡ true
unfolding is_space one_byte_space
space_is_one c h = rw (h, or-true)

front_one : (c : ℕ) (cs : Bytes) → is_space c ≡ true → 1 ≡ front_space (c ∷ cs)
unfolding front_space
front_one c cs h = sym (space_one two_byte_space three_byte_space c cs (space_is_one c h))

pub trim_run : (t : Bytes) → trim_start (drop (run is_space t) t) ≡ trim_start t
unfolding run trim_start
trim_run [] = refl
trim_run (c ∷ cs) = on (is_space c) refl (trim_run cs)
  where
    on : (b : Bool) → is_space c ≡ b → trim_by front_space 0 (drop (run is_space cs) cs) ≡ trim_by front_space 0 cs → trim_by front_space 0 (drop (pick b (suc (run is_space cs)) 0) (c ∷ cs)) ≡ trim_by front_space 0 (c ∷ cs)
    on true e ih = ih ∙ sym (trim_step front_space (c ∷ cs) 1 (front_one c cs e))
    on false e ih = refl

-- spaces alone
pub trim_spaces : (t : Bytes) → all is_space t ≡ true → trim_start t ≡ []
unfolding trim_start trim_by
trim_spaces t e = sym (trim_run t) ∙ ap trim_start (drop_of_length-le t {i = run is_space t} (omega (arith, run_whole is_space t e)))

-- ---- a visible byte of ASCII, which belongs to no white space character: what is trimmed at the back ends behind it

module _ (c : ℕ) (low : 32 < c) (high : c < 0x80) where
  visible_one : one_byte_space c ≡ false
  unfolding one_byte_space
  visible_one = rw (lt-leb c 13 (omega arith), ne_eqb c 32 (λ e. omega arith), and-false)

  back_before : (x : Bytes) → back_space (x ++ (c ∷ [])) ≤ length x
  unfolding back_space space_by
  back_before [] = rw visible_one (omega arith)
  back_before (a ∷ []) = rw (low_two c a (omega arith)) (on (one_byte_space a))
    where
      on : (x : Bool) → pick x 1 0 ≤ 1
      on true = omega arith
      on false = omega arith
  back_before (a ∷ b ∷ []) = rw (low_three c b a (omega arith)) (on (one_byte_space a) (two_byte_space b a))
    where
      on : (x y : Bool) → pick x 1 (pick y 2 0) ≤ 2
      on true y = omega arith
      on false true = omega arith
      on false false = omega arith
  back_before (a ∷ b ∷ d ∷ x) = on (one_byte_space a) (two_byte_space b a) (three_byte_space d b a)
    where
      on : (u v w : Bool) → pick u 1 (pick v 2 (pick w 3 0)) ≤ suc (suc (suc (length x)))
      on true v w = omega arith
      on false true w = omega arith
      on false false true = omega arith
      on false false false = omega arith

  back_stays : (k : ℕ) (x : Bytes) → k ≤ length x → 0 < length (trim_by back_space k (x ++ (c ∷ [])))
  unfolding trim_by
  back_stays zero [] h = omega (arith, ap (λ (t : Bytes). length t) (trim_stop back_space (c ∷ []) (omega (arith, back_before []))))
  back_stays (suc k) [] h = absurd (not-suc-le-zero h)
  back_stays (suc k) (y ∷ x) h = back_stays k x (le_of_suc-le-suc h)
  back_stays zero (y ∷ x) h = on (back_space (y ∷ (x ++ (c ∷ [])))) (back_before (y ∷ x)) (λ k. back_stays k x)
    where
      on : (n : ℕ) → n ≤ suc (length x) → ((k : ℕ) → k ≤ length x → 0 < length (trim_by back_space k (x ++ (c ∷ [])))) → 0 < length {A = ℕ} (elim n [ zero ↦ y ∷ (x ++ (c ∷ [])) | suc k ↦ trim_by back_space k (x ++ (c ∷ [])) ])
      on zero l f = omega arith
      on (suc k) l f = f k (le_of_suc-le-suc l)

  pub trim_visible : (t : Bytes) → 0 < length (trim_end (c ∷ t))
  unfolding trim_end
  trim_visible t = rw (length-reverse, reverse-cons c t) (back_stays 0 (reverse t) (omega arith))

-- the first bytes of s
pub front_two : {s r t : Bytes} {a b : ℕ} → s ≡ a ∷ r → r ≡ b ∷ t → s ≡ a ∷ b ∷ t
front_two {s} {r} {t} {a} {b} e f = e ∙ ap {B = Bytes} (λ x. a ∷ x) f

pub front_end : {s r : Bytes} {a : ℕ} → s ≡ a ∷ r → r ≡ [] → s ≡ a ∷ []
front_end {s} {r} {a} e f = e ∙ ap {B = Bytes} (λ x. a ∷ x) f

pub front_three : {s r q t : Bytes} {a b c : ℕ} → s ≡ a ∷ r → r ≡ b ∷ q → q ≡ c ∷ t → s ≡ a ∷ b ∷ c ∷ t
front_three {s} {r} {q} {t} {a} {b} {c} e f g = front_two e f ∙ ap {B = Bytes} (λ x. a ∷ b ∷ x) g

-- ---- what the code takes off either end: a character in u, which is s, and what is left behind it

module _ (two : ℕ → ℕ → Bool) (three : ℕ → ℕ → ℕ → Bool) {s u : Bytes} (e : s ≡ u) where
  pub taken : {n : ℕ} {t : Bytes} → space_by two three u ≡ suc n → t ≡ drop (suc n) u → (0 < space_by two three s) × (t ≡ drop (space_by two three s) s)
  taken {n} {t} q r =
      let is : space_by two three s ≡ suc n = ap (λ (x : Bytes). space_by two three x) e ∙ q in
      (omega arith, r ∙ sym (ap (λ (k : ℕ). drop k s) is ∙ ap (drop (suc n)) e))

  pub none_there : space_by two three u ≡ 0 → space_by two three s ≡ 0
  none_there q = ap (λ (x : Bytes). space_by two three x) e ∙ q

pub nothing : (t : Bytes) → length t ≡ 0 → t ≡ []
nothing [] h = refl
nothing (c ∷ t) h = absurd (omega arith)

pub nothing_back : (t : Bytes) → length t ≡ 0 → reverse t ≡ []
nothing_back t h = ap {B = Bytes} reverse (nothing t h)

-- the last byte comes first in bytes taken backwards
pub last_first : {s : Bytes} {c : ℕ} (t : Bytes) → s ≡ t ++ (c ∷ []) → reverse s ≡ c ∷ reverse t
last_first {s} {c} t e = ap {B = Bytes} reverse e ∙ reverse-append t (c ∷ [])

-- a space in front goes
pub skip_on : (s : Bytes) → 1 ≤ length s → get_or s 0 0 ≡ 32 → drop (run is_space (take (length s - 1) (drop 1 s))) (take (length s - 1) (drop 1 s)) ≡ drop (run is_space s) s
unfolding run is_space
skip_on [] l h = absurd (omega arith)
skip_on (c ∷ s) l h =
    let rest : take (length (c ∷ s) - 1) s ≡ s = take_all (length (c ∷ s) - 1) s (omega arith) in
    rw (rest, eq-eqb c 32 h)

pub skip_stop : (s : Bytes) → (get_or s 0 0 ≡ 32 → ⊥) → s ≡ drop (run is_space s) s
unfolding run is_space
skip_stop [] h = refl
skip_stop (c ∷ s) h = rw (ne_eqb c 32 h)

-- ---- the two loops

module _ (s t : Bytes) (some : 0 < front_space s) (is : t ≡ drop (front_space s) s) where
  pub trim_on : trim_start t ≡ trim_start s
  unfolding trim_start
  trim_on = ap trim_start is ∙ sym (trim_step front_space s (front_space s) refl)

  pub front_shorter : length t < length s
  front_shorter = omega (arith, ap length is, length-drop (front_space s) s, front_le s)

pub trim_here : (s : Bytes) → front_space s ≡ 0 → trim_start s ≡ s
unfolding trim_start
trim_here s e = trim_stop front_space s (sym e)

module _ (s t : Bytes) (some : 0 < back_space (reverse s)) (is : reverse t ≡ drop (back_space (reverse s)) (reverse s)) where
  pub trim_back_on : trim_end t ≡ trim_end s
  unfolding trim_end
  trim_back_on = ap (λ (x : Bytes). reverse (trim_by back_space 0 x)) is ∙ sym (ap {B = Bytes} reverse (trim_step back_space (reverse s) (back_space (reverse s)) refl))

  pub back_shorter : length t < length s
  back_shorter = omega (arith, ap length is, length-drop (back_space (reverse s)) (reverse s), back_le (reverse s), length-reverse s, length-reverse t)

pub trim_back_here : (s : Bytes) → back_space (reverse s) ≡ 0 → trim_end s ≡ s
unfolding trim_end
trim_back_here s e = ap {B = Bytes} reverse (trim_stop back_space (reverse s) (sym e)) ∙ reverse-reverse s

-- a choice by a test, case by case
pub then_matches : {A : Type 0} {r : Option A} (P : Type 0) (Q : A → Type 0) (b : Bool) (x : A) → r ≡ then_some b x → (b ≡ false → P) → (b ≡ true → Q x) → MatchOption r P Q
then_matches P Q true x e f g = rw e (g refl)
then_matches P Q false x e f g = rw e (f refl)
