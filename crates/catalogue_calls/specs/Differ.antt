-- How the names of a row are told apart, some of them at a time. Nothing here needs belief: the laws tie each to `all_differ`. Assumes nothing: these
-- are definitions.
use Rattle.std.specs.Prelude.{ℕ, ◌+◌, ◌<◌, ◌≤◌, ◌≡◌, Bool, true, ◌&&◌, not, List, [], ◌∷◌, ◌++◌, length, take}
use Rattle.field.specs.Bytes.{Bytes}
use Rattle.catalogue_calls.specs.Standing.{among, names_in}

-- none of the numbers ns is among ms
unfoldable pub none_among : List ℕ → List ℕ → Bool
none_among [] ms = true
none_among (n ∷ ns) ms = not (among n ms) && none_among ns ms

-- so many names, from the front of s on, stand at the front of the batch, which has room for m, and r is left
pub record Taken (s : Bytes) (m : ℕ) (batch : List ℕ) (count : ℕ) (r : Bytes) : Type 0 where
  pub within : count ≤ m
  pub names_are : names_in s ≡ take count batch ++ names_in r
  pub all_taken : count < m → names_in r ≡ []
  pub shorter : count + length r ≤ length s
