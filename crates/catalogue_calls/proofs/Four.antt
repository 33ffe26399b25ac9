-- A number of four bytes as the code reads it, and written back further on. Main statements: `left_is`, `number_four`, `four_short`, `four_fits`, `raised_put`,
-- `front_raised`, `behind_raised`, `length_raised_at`.
-- Assumes nothing.
use mathlib.Core.Path.{◌≡◌, sym, ap, ◌∙◌}
use Prim.Native.Nat.{ℕ, ◌+◌, ◌-◌, ◌*◌, ◌%◌, ◌^◌, ◌≤◌, ◌<◌}
use native.Mathlib.Omega.{arith}
use mathlib.Core.List.{[], ◌∷◌, ◌++◌}
use lib.ListN.{length, take, drop, get_or, length-append, length-drop}
use lib.Seq.{take_all, take_at, drop_at, length-take-le}
use Rattle.std.proofs.lemmas.List.{append_assoc}
use Rattle.field.specs.Bytes.{Bytes}
use Rattle.field.specs.Number.{big_endian, number_from, number_of}
use Rattle.field.specs.Put.{put}
use Rattle.field.proofs.NumberLaws.{all_from, length_big_endian}
use Rattle.field.proofs.PutLaws.{put_fits}
use Rattle.catalogue.specs.Catalogue.{four}
use Rattle.catalogue.proofs.Parts.{four_below}
use Rattle.catalogue_calls.specs.Flat.{further, raised_at}

-- what is left from a place on, as the code takes it
abbrev pub left_from : Bytes → ℕ → Bytes
left_from s at = take (length s - at) (drop at s)

pub left_is : (s : Bytes) (at : ℕ) → left_from s at ≡ drop at s
left_is s at = take_all (length s - at) (drop at s) (omega (arith, length-drop at s))

-- all at once
pub number_four : (s : Bytes) → length s ≡ 4 → {r : ℕ} → r ≡ get_or s 0 0 * 16777216 + get_or s 1 0 * 65536 + get_or s 2 0 * 256 + get_or s 3 0 → r ≡ number_of s
unfolding number_from
number_four [] l = absurd (omega arith)
number_four (a ∷ []) l = absurd (omega arith)
number_four (a ∷ b ∷ []) l = absurd (omega arith)
number_four (a ∷ b ∷ c ∷ []) l = absurd (omega arith)
number_four (a ∷ b ∷ c ∷ d ∷ []) l = λ e. omega (arith, e)
number_four (a ∷ b ∷ c ∷ d ∷ f ∷ s) l = absurd (omega arith)

-- of fewer bytes
pub four_short : (s : Bytes) → length s < 4 → number_of (take 8 s) ≡ four s
four_short s l = ap number_of (take_all 8 s (omega arith) ∙ sym (take_all 4 s (omega arith)))

pub four_fits : (s : Bytes) → ((i : ℕ) → get_or s i 0 < 256) → four s < 2 ^ 32
four_fits s a = four_below s (all_from s a)

pub raised_put : (s : Bytes) (at n : ℕ) → at + 4 ≤ length s → {k : ℕ} {o : Bytes} → k ≡ four (left_from s at) → o ≡ put s at (big_endian 4 ((k + n) % 4294967296) []) → o ≡ raised_at at n s
raised_put s at n l {k} {o} e q =
    let w : Bytes = further n (drop at s) in
    let z : length w ≡ 4 = length_big_endian 4 ((four (drop at s) + n) % 4294967296) [] in
    let f : k ≡ four (drop at s) = e ∙ ap four (left_is s at) in
    q ∙ ap (λ (j : ℕ). put s at (big_endian 4 ((j + n) % 4294967296) [])) f ∙ put_fits s at w (omega arith) ∙ ap (λ (j : ℕ). take at s ++ (w ++ drop (at + j) s)) z

-- ---- the bytes with the number at a place further on

module _ (at n : ℕ) (s : Bytes) (l : at + 4 ≤ length s) where
  number_size : length (further n (drop at s)) ≡ 4
  number_size = length_big_endian 4 ((four (drop at s) + n) % 4294967296) []

  front_size : length (take at s ++ further n (drop at s)) ≡ at + 4
  front_size = omega (arith, length-append (take at s) (further n (drop at s)), length-take-le at s (omega arith), number_size)

  apart : raised_at at n s ≡ (take at s ++ further n (drop at s)) ++ drop (at + 4) s
  apart = sym (append_assoc (take at s) (further n (drop at s)) (drop (at + 4) s))

  pub front_raised : take (at + 4) (raised_at at n s) ≡ take at s ++ further n (drop at s)
  front_raised = ap (take (at + 4)) apart ∙ take_at (take at s ++ further n (drop at s)) (drop (at + 4) s) (at + 4) front_size

  pub behind_raised : drop (at + 4) (raised_at at n s) ≡ drop (at + 4) s
  behind_raised = ap (drop (at + 4)) apart ∙ drop_at (take at s ++ further n (drop at s)) (drop (at + 4) s) (at + 4) front_size

  pub length_raised_at : length (raised_at at n s) ≡ length s
  length_raised_at = ap length apart ∙ omega (arith, length-append (take at s ++ further n (drop at s)) (drop (at + 4) s), front_size, length-drop (at + 4) s)
