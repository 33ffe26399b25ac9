-- What the helper functions answer: runs of bytes that pass a test, and a line with the space in front of it. Assumes nothing: these are definitions.
use Rattle.std.specs.Prelude.{ℕ, suc, Bool, true, ◌&&◌, ◌||◌, not, [], ◌∷◌, eqb}
use Rattle.field.specs.Bytes.{Bytes, pick, null?}

-- how many bytes in front pass
unfoldable pub run : (ℕ → Bool) → Bytes → ℕ
run p [] = 0
run p (c ∷ cs) = pick (p c) (suc (run p cs)) 0

-- every byte passes
unfoldable pub all : (ℕ → Bool) → Bytes → Bool
all p [] = true
all p (c ∷ cs) = p c && all p cs

-- a byte that escaping leaves alone
unfoldable pub plain : ℕ → Bool
plain c = not (eqb c 34) && not (eqb c 38) && not (eqb c 39) && not (eqb c 60) && not (eqb c 62)

-- a byte that ends no line
unfoldable pub not_lf : ℕ → Bool
not_lf c = not (eqb c 10)

unfoldable pub is_space : ℕ → Bool
is_space c = eqb c 32

-- a byte of an indent: a space, or an LF
unfoldable pub indent : ℕ → Bool
indent c = eqb c 32 || eqb c 10

-- a space in front where asked
unfoldable pub spaced_line : Bool → Bytes → Bytes
spaced_line later l = pick later (32 ∷ l) l

-- the same of a line that is kept; nothing of an empty one
unfoldable pub kept_line : Bool → Bytes → Bytes
kept_line later l = pick (null? l) [] (spaced_line later l)
