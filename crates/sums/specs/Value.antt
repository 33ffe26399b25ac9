-- 02, A12: what a sum comes to. Numbers are exact, by sign and size, and `Minus` is below zero. If a number or a step passes
-- 9,007,199,254,740,991 either way, or zero and a negative are multiplied, it stays. Assumes nothing: these are definitions.
use Rattle.std.specs.Prelude.{ℕ, ◌+◌, ◌-◌, ◌*◌, leb, eqb}
use Rattle.sums.specs.Choice.{choose}
use Rattle.sums.specs.Tree.{Tree, number, plus, minus, times}
use Rattle.sums.specs.declared.value.Sum.{Sum}
use Rattle.sums.specs.declared.value.Sum.TheVariants.{Plus, Minus}
use Rattle.std.specs.Prelude.{Option, Some, None}

-- what a text comes to: a number, or nothing where it stays
abbrev pub Worked : Type 0
Worked = Option Sum

-- the bound of a number and of each step
abbrev pub most : ℕ
most = 9007199254740991

-- n, and n below zero
unfoldable pub upward : ℕ → Worked
upward n = choose (leb n most) (Some (Plus n)) None

unfoldable pub downward : ℕ → Worked
downward n = choose (leb n most) (Some (Minus n)) None

-- a less b
unfoldable pub difference : ℕ → ℕ → Worked
difference a b = choose (leb b a) (upward (a - b)) (downward (b - a))

unfoldable pub added : Worked → Worked → Worked
added None y = None
added (Some (Plus a)) None = None
added (Some (Plus a)) (Some (Plus b)) = upward (a + b)
added (Some (Plus a)) (Some (Minus b)) = difference a b
added (Some (Minus a)) None = None
added (Some (Minus a)) (Some (Plus b)) = difference b a
added (Some (Minus a)) (Some (Minus b)) = downward (a + b)

unfoldable pub taken : Worked → Worked → Worked
taken None y = None
taken (Some (Plus a)) None = None
taken (Some (Plus a)) (Some (Plus b)) = difference a b
taken (Some (Plus a)) (Some (Minus b)) = upward (a + b)
taken (Some (Minus a)) None = None
taken (Some (Minus a)) (Some (Plus b)) = downward (a + b)
taken (Some (Minus a)) (Some (Minus b)) = difference b a

-- zero times a negative would be a zero with a sign
unfoldable pub multiplied : Worked → Worked → Worked
multiplied None y = None
multiplied (Some (Plus a)) None = None
multiplied (Some (Plus a)) (Some (Plus b)) = upward (a * b)
multiplied (Some (Plus a)) (Some (Minus b)) = choose (eqb a 0) None (downward (a * b))
multiplied (Some (Minus a)) None = None
multiplied (Some (Minus a)) (Some (Plus b)) = choose (eqb b 0) None (downward (a * b))
multiplied (Some (Minus a)) (Some (Minus b)) = upward (a * b)

unfoldable pub value : Tree → Worked
value (number n) = upward n
value (plus x y) = added (value x) (value y)
value (minus x y) = taken (value x) (value y)
value (times x y) = multiplied (value x) (value y)
