-- The names of 02 and 03 as the walk is given them: their series. Main statement: `by_series`. Assumes nothing.
use Prim.Native.Nat.{◌≤◌}
use native.Mathlib.Omega.{arith}
use mathlib.Core.Path.{◌≡◌, ap, ◌∙◌}
use mathlib.Core.List.{List}
use lib.ListN.{length}
use Rattle.field.specs.Bytes.{Bytes, among}
use Rattle.field.specs.Row.{read}
use Rattle.page.specs.Tree.{texts_in}
use Rattle.decisions.specs.Index.{names_of}
use Rattle.decisions.proofs.IndexLaws.{listed_plain}

pub by_series : (s : Bytes) {l : List Bytes} → length s ≤ 32 → texts_in 0x20 (read s) ≡ l → (n : Bytes) → among n (names_of s) ≡ among n l
by_series s h e n = ap (λ (x : List Bytes). among n x) (listed_plain s (omega (arith, h)) ∙ e)
