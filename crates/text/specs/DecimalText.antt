-- What a decimal text means. Assumes nothing: these are definitions.
use Rattle.std.specs.Prelude.{◌≡◌, ℕ, ◌+◌, ◌-◌, ◌*◌, ◌^◌, ◌≤◌, ◌<◌, [], ◌∷◌, ◌++◌, length}
use Rattle.field.specs.Bytes.{Bytes}

unfoldable pub AllDigits : Bytes → Type 0
AllDigits [] = Unit {0}
AllDigits (c ∷ cs) = ((48 ≤ c) × (c ≤ 57)) × AllDigits cs

-- one digit or more
abbrev pub Digits : Bytes → Type 0
Digits w = (0 < length w) × AllDigits w

-- digits as one number, behind those that make m
unfoldable pub value : ℕ → Bytes → ℕ
value m [] = m
value m (c ∷ cs) = value (10 * m + (c - 48)) cs

-- t is digits, or digits, a point and digits: all of them make m, and q of them stand behind the point
pub data ReadsAs (t : Bytes) (m q : ℕ) : Type 0 where
  whole : Digits t → m ≡ value 0 t → q ≡ 0 → ReadsAs t m q
  point : (w f : Bytes) → t ≡ w ++ (46 ∷ f) → Digits w → Digits f → m ≡ value 0 (w ++ f) → q ≡ length f → ReadsAs t m q

-- t means n / 10^p
pub record Means (t : Bytes) (n p : ℕ) : Type 0 where
  pub number : ℕ
  pub places : ℕ
  pub reads : ReadsAs t number places
  pub same : number * 10 ^ p ≡ n * 10 ^ places
