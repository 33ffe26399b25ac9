-- What the walks over numbers promise each other. Nothing here needs belief. Assumes nothing: these are definitions.
use Rattle.std.specs.Prelude.{ℕ, ◌+◌, ◌≤◌, ◌<◌, ◌≡◌, List, [], ◌∷◌, ◌++◌, length, take, drop, Option, Some, None}
use Rattle.std.specs.Borrow.{Bor}
use Rattle.field.specs.Bytes.{Bytes}
use Rattle.catalogue.specs.Catalogue.{four}
use Rattle.catalogue_calls.specs.Flat.{calls_in, further, calls_raised}

-- of the numbers that f tells of bytes, the first, and the bytes in which the others stand
abbrev pub NextNumber : (Bytes → List ℕ) → Bytes → Option (ℕ × Bor Bytes) → Type 0
NextNumber f s None = f s ≡ []
NextNumber f s (Some p) = (f s ≡ p.0 ∷ f p.1.now) × (length p.1.now < length s)

-- the number of the first call stands here
pub record CallAt (s : Bytes) (at : ℕ) : Type 0 where
  pub header : 3 ≤ at
  pub inside : at ≤ length s
  pub numbers_are : calls_in s ≡ four (drop at s) ∷ calls_in (drop (at + 4) s)
  pub raised_is : (n : ℕ) → calls_raised n s ≡ take at s ++ (further n (drop at s) ++ calls_raised n (drop (at + 4) s))

-- no call stands in these bytes
pub record NoCall (s : Bytes) : Type 0 where
  pub no_numbers : calls_in s ≡ []
  pub as_it_was : (n : ℕ) → calls_raised n s ≡ s

abbrev pub NextCall : Bytes → Option ℕ → Type 0
NextCall s None = NoCall s
NextCall s (Some at) = CallAt s at
