-- One of two by a test, and the digits. Assumes nothing: these are definitions.
use Rattle.std.specs.Prelude.{ℕ, Bool, true, false, ◌&&◌, leb}

-- as `pick` of field; it unfolds only where that is asked for, so that a goal still shows the test
unfoldable pub choose : {A : Type 0} → Bool → A → A → A
choose true a b = a
choose false a b = b

unfoldable pub digit : ℕ → Bool
digit c = leb 48 c && leb c 57
