-- The reader: a state, a step for each byte, an answer at the end. Open brackets stand in a list. Assumes nothing.
use Rattle.std.specs.Prelude.{ℕ, ◌+◌, ◌-◌, ◌*◌, List, [], ◌∷◌, eqb}
use Rattle.sums.specs.Choice.{choose, digit}
use Rattle.field.specs.Bytes.{Bytes}
use Rattle.sums.specs.Tree.{Tree, number, plus, minus, times}
use Rattle.sums.specs.Value.{value}
use Rattle.sums.specs.Value.{Worked}
use Rattle.std.specs.Prelude.{None}

-- what waits for a product: nothing, or a sum and `+` or `-`
pub data Before : Type 0 where
  no_sum : Before
  sum_plus : Tree → Before
  sum_minus : Tree → Before

-- what waits for an operand: nothing, or a product and `*`
pub data Factor : Type 0 where
  no_product : Factor
  product_times : Tree → Factor

-- an open bracket, and what waits for it
pub data Frame : Type 0 where
  frame : Before → Factor → Frame

abbrev pub Stack : Type 0
Stack = List Frame

pub data State : Type 0 where
  awaits : Before → Factor → Stack → State  -- an operand
  in_digits : ℕ → Before → Factor → Stack → State
  behind : Before → Tree → Stack → State  -- the product so far, behind an operand
  refused : State

unfoldable pub sum_with : Before → Tree → Tree
sum_with no_sum y = y
sum_with (sum_plus x) y = plus x y
sum_with (sum_minus x) y = minus x y

unfoldable pub product_with : Factor → Tree → Tree
product_with no_product y = y
product_with (product_times x) y = times x y

unfoldable pub closed : Tree → Stack → State
closed x [] = refused
closed x (frame b f ∷ K) = behind b (product_with f x) K

unfoldable pub step_behind : Before → Tree → Stack → ℕ → State
step_behind b y K c =
    choose (eqb c 32) (behind b y K)
    (choose (eqb c 43) (awaits (sum_plus (sum_with b y)) no_product K)
    (choose (eqb c 45) (awaits (sum_minus (sum_with b y)) no_product K)
    (choose (eqb c 42) (awaits b (product_times y) K)
    (choose (eqb c 41) (closed (sum_with b y) K) refused))))

unfoldable pub step : State → ℕ → State
step (awaits b f K) c =
    choose (eqb c 32) (awaits b f K)
    (choose (eqb c 48) (behind b (product_with f (number 0)) K)
    (choose (digit c) (in_digits (c - 48) b f K)
    (choose (eqb c 40) (awaits no_sum no_product (frame b f ∷ K)) refused)))
step (in_digits n b f K) c = choose (digit c) (in_digits (n * 10 + (c - 48)) b f K) (step_behind b (product_with f (number n)) K c)
step (behind b y K) c = step_behind b y K c
step refused c = refused

pub data Outcome : Type 0 where
  read : Tree → Outcome
  no_reading : Outcome

-- no bracket may be open
unfoldable pub whole : Tree → Stack → Outcome
whole x [] = read x
whole x (g ∷ K) = no_reading

unfoldable pub at_end : State → Outcome
at_end (awaits b f K) = no_reading
at_end (in_digits n b f K) = whole (sum_with b (product_with f (number n))) K
at_end (behind b y K) = whole (sum_with b y) K
at_end refused = no_reading

unfoldable pub outcome : State → Bytes → Outcome
outcome x [] = at_end x
outcome x (c ∷ s) = outcome (step x c) s

abbrev pub start : State
start = awaits no_sum no_product []

-- what a text comes to: one that is no sum stays too
unfoldable pub found : Outcome → Worked
found (read t) = value t
found no_reading = None

unfoldable pub sum_of : Bytes → Worked
sum_of s = found (outcome start s)
