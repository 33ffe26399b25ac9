-- The names of 02 or 03 as the walks hold them: their series of 20s, or an index of it, in which a name is found by its hash. Assumes
-- nothing: these are definitions.
-- An index is longer than 4,096 bytes, which no series is: for each of 1,024 hashes the number of its last entry, in two bytes; 1,366
-- entries of four bytes, the number of the entry before it and the name's place; then the series.
use Rattle.std.specs.Prelude.{ℕ, zero, suc, ◌+◌, ◌*◌, ◌%◌, Option, Some, None, List, [], ◌∷◌, ◌++◌, eqb, leb, ltb, length, drop, get_or}
use Rattle.field.specs.Bytes.{Bytes, pick}
use Rattle.field.specs.Number.{big_endian}
use Rattle.field.specs.Row.{read}
use Rattle.field.specs.Front.{body_of}
use Rattle.field.specs.Put.{put}
use Rattle.page.specs.Tree.{texts_in}

unfoldable pub hash_from : ℕ → Bytes → ℕ
hash_from h [] = h
hash_from h (c ∷ cs) = hash_from ((h * 31 + c) % 1024) cs

-- below 1,024
abbrev pub hash : Bytes → ℕ
hash n = hash_from 0 n

-- the number in two bytes, or 0 past the end
unfoldable pub two_at : Bytes → ℕ → ℕ
two_at b i = pick (ltb (i + 1) (length b)) (get_or b i 0 * 256 + get_or b (i + 1) 0) 0

-- an entry's name, and the entry before it
unfoldable pub name_at : Bytes → ℕ → Bytes
name_at b k = body_of (drop (7512 + two_at b (2050 + 4 * k)) b)

abbrev pub before_at : Bytes → ℕ → ℕ
before_at b k = two_at b (2048 + 4 * k)

-- an entry in two bytes: its number and one, or 0 for none
abbrev pub link_of : Option ℕ → ℕ
link_of None = 0
link_of (Some k) = suc k

-- the names of an entry and of those before it; suc k stands for entry k, zero for none. The first argument falls at each
unfoldable pub chain : ℕ → Bytes → ℕ → List Bytes
chain zero b k = []
chain (suc f) b zero = []
chain (suc f) b (suc k) = name_at b k ∷ chain f b (before_at b k)

-- those with that hash
unfoldable pub hashed : ℕ → List Bytes → List Bytes
hashed h [] = []
hashed h (n ∷ ns) = pick (eqb (hash n) h) (n ∷ hashed h ns) (hashed h ns)

-- the names of all hashes below that one
unfoldable pub gathered : ℕ → Bytes → List Bytes
gathered zero b = []
gathered (suc h) b = gathered h b ++ hashed h (chain 1366 b (two_at b (2 * h)))

unfoldable pub names_of : Bytes → List Bytes
names_of b = pick (leb (length b) 4096) (texts_in 0x20 (read b)) (gathered 1024 b)

-- with one entry more
abbrev pub linked : Bytes → (hash entry place : ℕ) → Bytes
linked b h k p = put (put (put b (2048 + 4 * k) (big_endian 2 (two_at b (2 * h)) [])) (2050 + 4 * k) (big_endian 2 p [])) (2 * h) (big_endian 2 (k + 1) [])
