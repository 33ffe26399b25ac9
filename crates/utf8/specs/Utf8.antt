-- UTF-8 as the grammar of RFC 3629, section 4, has it. Main definition: utf8.
-- Surrogates, numbers over U+10FFFF and forms longer than needed are shut out by the table alone: no form of it writes them.
-- Assumes nothing: these are definitions.
use Rattle.std.specs.Prelude.{ℕ, Bool, true, false, ◌&&◌, cond, List, [], ◌∷◌, leb, ltb}
use Rattle.std.proofs.Math.Option.{Option, none, some}

infix 80 ◌to◌
infix 70 ◌then◌
-- the bytes from a low to a high one, both included: the RFC's %x80-BF is 0x80 to 0xBF
pub data Range : Type 0 where
  ◌to◌ : ℕ → ℕ → Range

abbrev pub within : Range → ℕ → Bool
within (low to high) b = leb low b && leb b high

-- a form of a character: the range of its first byte, then those of the bytes behind it
pub data Form : Type 0 where
  ◌then◌ : Range → List Range → Form

-- UTF8-tail
abbrev pub tail : Range
tail = 0x80 to 0xBF

-- UTF8-char: UTF8-1, UTF8-2, the four alternatives of UTF8-3 and the three of UTF8-4, in the RFC's order
unfoldable pub forms : List Form
forms =
    0x00 to 0x7F then [] ∷
    0xC2 to 0xDF then (tail ∷ []) ∷
    0xE0 to 0xE0 then (0xA0 to 0xBF ∷ tail ∷ []) ∷
    0xE1 to 0xEC then (tail ∷ tail ∷ []) ∷
    0xED to 0xED then (0x80 to 0x9F ∷ tail ∷ []) ∷
    0xEE to 0xEF then (tail ∷ tail ∷ []) ∷
    0xF0 to 0xF0 then (0x90 to 0xBF ∷ tail ∷ tail ∷ []) ∷
    0xF1 to 0xF3 then (tail ∷ tail ∷ tail ∷ []) ∷
    0xF4 to 0xF4 then (0x80 to 0x8F ∷ tail ∷ tail ∷ []) ∷ []

-- the ranges that stand behind a first byte b; none where b begins no character
unfoldable pub begun : ℕ → List Form → Option (List Range)
begun b [] = none
begun b (r then rs ∷ fs) = cond (within r b) (some rs) (begun b fs)

-- a byte in each of the ranges, in their order, and from there whole characters to the end
unfoldable pub utf8_behind : List Range → List ℕ → Bool
utf8_behind [] [] = true
utf8_behind [] (b ∷ bs) = elim (begun b forms) [ none ↦ false | some rs ↦ utf8_behind rs bs ]
utf8_behind (r ∷ rs) [] = false
utf8_behind (r ∷ rs) (b ∷ bs) = within r b && utf8_behind rs bs

-- UTF8-octets: whole characters, one behind the other
unfoldable pub utf8 : List ℕ → Bool
utf8 bs = utf8_behind [] bs

-- all bytes are of UTF8-1
unfoldable pub all_ascii : List ℕ → Bool
all_ascii [] = true
all_ascii (b ∷ bs) = ltb b 0x80 && all_ascii bs
