-- A page out and a catalogue as the code walks them, byte by byte and with no stack: a field that holds fields is entered behind its front, any other
-- is passed over. Nothing here needs belief: the laws tie each to the rows. Assumes nothing: these are definitions.
use Rattle.std.specs.Prelude.{ℕ, zero, suc, ◌+◌, ◌%◌, List, [], ◌∷◌, ◌++◌, eqb, length, take, drop}
use Rattle.field.specs.Bytes.{Bytes, pick}
use Rattle.field.specs.Number.{big_endian}
use Rattle.field.specs.Row.{Next, nothing, no_field, next, next_of}
use Rattle.outs.specs.Held.{nests}
use Rattle.catalogue.specs.Catalogue.{four}
use Rattle.catalogue.specs.Numbers.{full_turn}

-- the numbers of the calls in a page out, front to back: f tells those of the bytes that are left
abbrev pub calls_by : (Bytes → List ℕ) → Bytes → Next → List ℕ
calls_by f b nothing = []
calls_by f b no_field = []
calls_by f b (next t w r) = pick (eqb t 0x90) (four (drop 3 b) ∷ f (drop 7 b)) (pick (nests t) (f (drop 3 b)) (f r))

-- so many steps
unfoldable pub calls_from : ℕ → Bytes → List ℕ
calls_from zero b = []
calls_from (suc k) b = calls_by (calls_from k) b (next_of b)

unfoldable pub calls_in : Bytes → List ℕ
calls_in b = calls_from (suc (length b)) b

-- the bytes of a number n further: beyond 32 bits it begins again
abbrev pub further : ℕ → Bytes → Bytes
further n b = big_endian 4 ((four b + n) % full_turn) []

-- the bytes with the number at a place n further
abbrev pub raised_at : (at n : ℕ) → Bytes → Bytes
raised_at at n b = take at b ++ (further n (drop at b) ++ drop (at + 4) b)

-- the bytes of a page out with the number of each call n further
abbrev pub raised_by : (Bytes → Bytes) → ℕ → Bytes → Next → Bytes
raised_by f n b nothing = b
raised_by f n b no_field = b
raised_by f n b (next t w r) =
    pick (eqb t 0x90) (take 3 b ++ (further n (drop 3 b) ++ f (drop 7 b)))
    (pick (nests t) (take 3 b ++ f (drop 3 b)) (take (3 + length w) b ++ f r))

unfoldable pub raised_from : ℕ → ℕ → Bytes → Bytes
raised_from zero n b = b
raised_from (suc k) n b = raised_by (raised_from k n) n b (next_of b)

unfoldable pub calls_raised : ℕ → Bytes → Bytes
calls_raised n b = raised_from (suc (length b)) n b
