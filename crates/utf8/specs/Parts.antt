-- What the parts of is_utf8 promise: t is what they leave of the list s.
-- Assumes nothing: these are definitions.
use Rattle.std.specs.Prelude.{◌≡◌, ℕ, ◌≤◌, ◌<◌, ⊤, true, false, List, [], ◌∷◌, ◌++◌, length, drop}
use Rattle.utf8.specs.Utf8.{Range, utf8_behind, utf8, all_ascii}

-- ASCII alone stands in front of it
pub record Skips (s t : List ℕ) : Type 0 where
  pub front : List ℕ
  pub plain : all_ascii front ≡ true
  pub is : s ≡ front ++ t

-- a character stands in front of it
pub record Leaves (s t : List ℕ) : Type 0 where
  pub shorter : length t < length s
  pub same : utf8 s ≡ utf8 t

-- a byte in each of the ranges stands in front of it, whatever ranges are to follow
pub record Passes (rs : List Range) (s t : List ℕ) : Type 0 where
  pub inside : length t ≤ length s
  pub same : (qs : List Range) → utf8_behind (rs ++ qs) s ≡ utf8_behind qs t

-- there are no such bytes in front of s
pub record Lacks (rs : List Range) (s : List ℕ) : Type 0 where
  pub refused : (qs : List Range) → utf8_behind (rs ++ qs) s ≡ false

-- nothing but whole characters stands in front of it
pub record Skipped (s t : List ℕ) : Type 0 where
  pub inside : length t ≤ length s
  pub same : utf8 s ≡ utf8 t

-- ---- a row of bytes, each held to the three before it

-- behind the three bytes no character is left open
abbrev pub Closed : ℕ → ℕ → ℕ → Type 0
Closed third second last = (third < 0xF0) × (second < 0xE0) × (last < 0xC0)

-- the byte b may follow the three
pub record Follows (third second last b : ℕ) : Type 0 where
  pub begins : 0xC0 ≤ b → 0xC2 ≤ b
  pub largest : b < 0xF5
  pub ascii : b < 0x80 → Closed third second last
  pub starts : 0xC0 ≤ b → Closed third second last
  pub inner : 0x80 ≤ b → b < 0xC0 → Closed third second last → ⊥
  pub after_e0 : last ≡ 0xE0 → 0xA0 ≤ b
  pub after_ed : last ≡ 0xED → b < 0xA0
  pub after_f0 : last ≡ 0xF0 → 0x90 ≤ b
  pub after_f4 : last ≡ 0xF4 → b < 0x90

-- the same where no byte begins a character of more than two
pub record FollowsNarrow (last b : ℕ) : Type 0 where
  pub narrow : b < 0xE0
  pub follows : (third second : ℕ) → third < 0xE0 → second < 0xE0 → last < 0xE0 → Follows third second last b

-- each byte of the row may follow the three before it
abbrev pub Row : ℕ → ℕ → ℕ → List ℕ → Type 0
Row third second last [] = ⊤
Row third second last (b ∷ bs) = Follows third second last b × Row second last b bs

-- n bytes of the row in front are whole characters
pub record IsWhole (row : List ℕ) (n : ℕ) : Type 0 where
  pub some : 0 < n
  pub inside : n ≤ length row
  pub same : Row 0 0 0 row → (t : List ℕ) → utf8 (row ++ t) ≡ utf8 (drop n row ++ t)
