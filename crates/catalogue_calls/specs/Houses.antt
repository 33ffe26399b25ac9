-- What the houses have used and are sure of, as the code counts it. Assumes nothing: these are definitions.
use Rattle.std.specs.Prelude.{ℕ, ◌-◌, ◌≤◌, ◌≡◌, List, get_or}
use Rattle.field.specs.Bytes.{Bytes}
use Rattle.catalogue_calls.specs.Answer.{shares_of}
use Rattle.catalogue_calls.specs.Standing.{used_in}

-- at the number of each house the bytes of its pages
abbrev pub UsedIn : Bytes → List ℕ → Type 0
UsedIn s used = (h : ℕ) → h ≤ 16 → get_or used h 0 ≡ used_in h s

-- what a house is sure of and has not used
abbrev pub unused_by : (shares used : List ℕ) → ℕ → ℕ
unused_by ns used h = (shares_of ns).guarantee h - get_or used h 0
