-- The same in the library's integers: what exact arithmetic gives, and when a sum is worked out. Assumes nothing: these are definitions.
use Rattle.std.specs.Prelude.{suc, ◌≤◌, ◌≡◌, Bool, false, eqb, ℤ, pos, negsuc, nat_abs, ◌+ℤ◌, ◌-ℤ◌, ◌*ℤ◌}
use Rattle.sums.specs.Tree.{Tree, number, plus, minus, times}
use Rattle.sums.specs.Value.{most}
use Rattle.sums.specs.Value.{Worked}
use Rattle.sums.specs.declared.value.Sum.TheVariants.{Plus, Minus}
use Rattle.std.specs.Prelude.{Some}

unfoldable pub integer : Tree → ℤ
integer (number n) = pos n
integer (plus x y) = integer x +ℤ integer y
integer (minus x y) = integer x -ℤ integer y
integer (times x y) = integer x *ℤ integer y

-- an integer by sign and size
unfoldable pub signed : ℤ → Worked
signed (pos n) = Some (Plus n)
signed (negsuc n) = Some (Minus (suc n))

-- zero and a negative
unfoldable pub zero_negative : ℤ → ℤ → Bool
zero_negative (pos a) (pos b) = false
zero_negative (pos a) (negsuc b) = eqb a 0
zero_negative (negsuc a) (pos b) = eqb b 0
zero_negative (negsuc a) (negsuc b) = false

-- 02, A12: no number and no step passes the bound either way, and zero and a negative are not multiplied
unfoldable pub Steps : Tree → Type 0
Steps (number n) = n ≤ most
Steps (plus x y) = Steps x × Steps y × (nat_abs (integer x +ℤ integer y) ≤ most)
Steps (minus x y) = Steps x × Steps y × (nat_abs (integer x -ℤ integer y) ≤ most)
Steps (times x y) = Steps x × Steps y × (nat_abs (integer x *ℤ integer y) ≤ most) × (zero_negative (integer x) (integer y) ≡ false)
