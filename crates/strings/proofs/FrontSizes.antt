-- The parts of the field in front are not longer than the whole, whether a field stands there or not. Assumes nothing.
use mathlib.Core.Path.{◌≡◌, refl, ap}
use Prim.Native.Nat.{◌≤◌}
use native.Mathlib.Omega.{arith}
use lib.ListN.{length}
use Rattle.field.specs.Bytes.{Bytes}
use Rattle.field.specs.Row.{Next, nothing, no_field, next, next_of}
use Rattle.field.specs.Front.{body_of, behind_of, body_by, behind_by}
use Rattle.field.proofs.RowLaws.{next_sizes}

sizes_by : (s : Bytes) (n : Next) → next_of s ≡ n → (length (body_by n) ≤ length s) × (length (behind_by n) ≤ length s)
sizes_by s nothing e = (omega arith, omega arith)
sizes_by s no_field e = (omega arith, omega arith)
sizes_by s (next t w r) e = (omega (arith, next_sizes s t w r e), omega (arith, next_sizes s t w r e))

pub body_le : (s : Bytes) → length (body_of s) ≤ length s
unfolding body_of
body_le s = (sizes_by s (next_of s) refl).0

pub behind_le : (s : Bytes) {r : Bytes} → r ≡ behind_of s → length r ≤ length s
unfolding behind_of
behind_le s q = omega (arith, (sizes_by s (next_of s) refl).1, ap length q)
