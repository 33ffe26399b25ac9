-- The machine with what parts come to in place of their trees, and sizes past the bound all alike. Nothing here needs belief. Assumes nothing.
use Rattle.std.specs.Prelude.{ℕ, ◌+◌, ◌-◌, ◌*◌, List, [], ◌∷◌, leb, eqb}
use Rattle.sums.specs.Choice.{choose, digit}
use Rattle.field.specs.Bytes.{Bytes}
use Rattle.sums.specs.Value.{Worked, most, upward, downward, added, taken, multiplied}
use Rattle.sums.specs.declared.value.Sum.{Sum}
use Rattle.sums.specs.declared.value.Sum.TheVariants.{Plus, Minus}
use Rattle.sums.specs.declared.reader.Before.{Before}
use Rattle.sums.specs.declared.reader.Before.TheVariants.{NoSum, SumPlus, SumMinus}
use Rattle.sums.specs.declared.reader.Mode.{Mode}
use Rattle.sums.specs.declared.reader.Mode.TheVariants as M
use Rattle.std.specs.Prelude.{Option, Some, None}

-- what waits for an operand: nothing, or a product and `*`
abbrev pub Factor : Type 0
Factor = Option Worked

-- what waits for a product, and what waits for an operand
pub record Waiting : Type 0 where
  pub before : Before
  pub factor : Factor

pub data State : Type 0 where
  Awaits : Waiting → State  -- an operand
  Digits : ℕ → Waiting → State
  Behind : Before → Worked → State  -- the product so far, behind an operand

-- what a byte does
pub data Act : Type 0 where
  On : State → Act
  Open : Waiting → Act
  Close : Worked → Act
  Refused : Act

-- the state as the loop holds it: a mode, and what there is in it
unfoldable pub state_of : Mode → Before → Factor → Worked → State
state_of M.Awaits b f y = Awaits (record { before = b; factor = f })
state_of M.Behind b f y = Behind b y

abbrev pub size : Sum → ℕ
size (Plus n) = n
size (Minus n) = n

-- a number whose size is within the bound
abbrev pub bounded : Sum → Worked
bounded (Plus n) = upward n
bounded (Minus n) = downward n

abbrev pub opposite : Sum → Sum
opposite (Plus n) = Minus n
opposite (Minus n) = Plus n

-- x from zero up times one below zero of size y
unfoldable pub mixed_product : ℕ → ℕ → Worked
mixed_product x y = choose (eqb x 0) None (downward (x * y))

unfoldable pub finished : Before → Worked → Worked
finished NoSum y = y
finished (SumPlus x) y = added x y
finished (SumMinus x) y = taken x y

unfoldable pub times_by : Factor → Worked → Worked
times_by None y = y
times_by (Some x) y = multiplied x y

-- a size past the bound is as good as any other
unfoldable pub capped : ℕ → ℕ
capped n = choose (leb n most) n 9007199254740992

unfoldable pub grown : ℕ → ℕ → ℕ
grown n c = capped (n * 10 + (c - 48))

-- the first operand of a product is awaited
abbrev pub awaits : Before → State
awaits b = Awaits (record { before = b; factor = None })

unfoldable pub act_behind : Before → Worked → ℕ → Act
act_behind b y c =
    choose (eqb c 32) (On (Behind b y))
    (choose (eqb c 43) (On (awaits (SumPlus (finished b y))))
    (choose (eqb c 45) (On (awaits (SumMinus (finished b y))))
    (choose (eqb c 42) (On (Awaits (record { before = b; factor = Some y })))
    (choose (eqb c 41) (Close (finished b y)) Refused))))

unfoldable pub act_awaits : Waiting → ℕ → Act
act_awaits w c =
    choose (eqb c 32) (On (Awaits w))
    (choose (eqb c 48) (On (Behind w.before (times_by w.factor (upward 0))))
    (choose (digit c) (On (Digits (c - 48) w))
    (choose (eqb c 40) (Open w) Refused)))

unfoldable pub act_digits : ℕ → Waiting → ℕ → Act
act_digits n w c = choose (digit c) (On (Digits (grown n c) w)) (act_behind w.before (times_by w.factor (upward n)) c)

unfoldable pub act : State → ℕ → Act
act (Awaits w) c = act_awaits w c
act (Digits n w) c = act_digits n w c
act (Behind b y) c = act_behind b y c

abbrev pub Stack : Type 0
Stack = List Waiting

pub data Small : Type 0 where
  stands : State → Stack → Small
  stopped : Small

unfoldable pub moved : Act → Stack → Small
moved (On x) K = stands x K
moved (Open w) K = stands (awaits NoSum) (w ∷ K)
moved (Close y) [] = stopped
moved (Close y) (w ∷ K) = stands (Behind w.before (times_by w.factor y)) K
moved Refused K = stopped

unfoldable pub small_step : Small → ℕ → Small
small_step (stands x K) c = moved (act x c) K
small_step stopped c = stopped

unfoldable pub ended : State → Worked
ended (Awaits w) = None
ended (Digits n w) = finished w.before (times_by w.factor (upward n))
ended (Behind b y) = finished b y

unfoldable pub small_end : Small → Worked
small_end (stands x []) = ended x
small_end (stands x (g ∷ K)) = None
small_end stopped = None

unfoldable pub result : Small → Bytes → Worked
result x [] = small_end x
result x (c ∷ s) = result (small_step x c) s
