-- Decimal digits, and a point among them. Assumes nothing: these are definitions.
use Rattle.std.specs.Prelude.{ℕ, zero, suc, ◌+◌, ◌/◌, ◌%◌, ◌^◌, [], ◌∷◌, ◌++◌, eqb}
use Rattle.field.specs.Bytes.{Bytes, pick}

-- the digits of n in front of acc; the first argument falls at each digit
unfoldable pub digits : ℕ → ℕ → Bytes → Bytes
digits zero n acc = acc
digits (suc fuel) n acc = pick (eqb (n / 10) 0) ((48 + n % 10) ∷ acc) (digits fuel (n / 10) ((48 + n % 10) ∷ acc))

-- to_string of an integer: twenty digits hold every number below 2^64
unfoldable pub decimal : ℕ → Bytes
decimal n = digits 20 n []

-- ---- digits over a power of ten

-- the last k digits of n in front of acc, zeros among them
unfoldable pub last_digits : ℕ → ℕ → Bytes → Bytes
last_digits zero n acc = acc
last_digits (suc k) n acc = last_digits k (n / 10) ((48 + n % 10) ∷ acc)

-- n / 10^p with all its p places: the whole part, which may be 0, a point, the places
unfoldable pub pointed : ℕ → ℕ → Bytes
pointed n p = decimal (n / 10 ^ p) ++ (46 ∷ last_digits p n [])

-- 02, A2: without trailing zeros or a bare point
unfoldable pub shortest : (digits places : ℕ) → Bytes
shortest n zero = decimal n
shortest n (suc p) = pick (eqb (n % 10) 0) (shortest (n / 10) p) (pointed n (suc p))
