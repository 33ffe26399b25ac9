-- Trimming by characters, beside Trim.antt, which has it by bytes: the code points with Unicode's property White_Space, UTF-8, and a text
-- without such characters at either end. proofs/WhiteSpace.antt shows that the two agree. Assumes nothing: these are definitions.
use Rattle.std.specs.Prelude.{ℕ, ◌+◌, ◌/◌, ◌%◌, Bool, true, false, ◌&&◌, ◌||◌, List, [], ◌∷◌, ◌++◌, reverse, eqb, ltb}
use Rattle.field.specs.Bytes.{Bytes, pick}

-- the lines of White_Space in Unicode's PropList.txt (15.0)
unfoldable pub white_spaces : List ℕ
white_spaces =
    0x0009 ∷ 0x000a ∷ 0x000b ∷ 0x000c ∷ 0x000d ∷ 0x0020 ∷ 0x0085 ∷ 0x00a0 ∷ 0x1680 ∷ 0x2000 ∷ 0x2001 ∷ 0x2002 ∷ 0x2003 ∷ 0x2004 ∷ 0x2005 ∷ 0x2006 ∷ 0x2007 ∷ 0x2008 ∷ 0x2009 ∷ 0x200a ∷ 0x2028 ∷ 0x2029 ∷ 0x202f ∷ 0x205f ∷ 0x3000 ∷ []

-- each above the one before it, and so none twice
unfoldable pub ascending : List ℕ → Bool
ascending [] = true
ascending (c ∷ []) = true
ascending (c ∷ d ∷ cs) = ltb c d && ascending (d ∷ cs)

unfoldable pub is_one_of : ℕ → List ℕ → Bool
is_one_of c [] = false
is_one_of c (d ∷ ds) = eqb c d || is_one_of c ds

unfoldable pub white_space : ℕ → Bool
white_space c = is_one_of c white_spaces

-- RFC 3629, section 3: one to four bytes by the size of the code point, six bits in each byte behind the first
unfoldable pub encode_utf8 : ℕ → Bytes
encode_utf8 c =
    pick (ltb c 0x80) (c ∷ [])
    (pick (ltb c 0x800) ((0xc0 + c / 64) ∷ (0x80 + c % 64) ∷ [])
    (pick (ltb c 0x10000) ((0xe0 + c / 4096) ∷ (0x80 + c / 64 % 64) ∷ (0x80 + c % 64) ∷ [])
    ((0xf0 + c / 262144) ∷ (0x80 + c / 4096 % 64) ∷ (0x80 + c / 64 % 64) ∷ (0x80 + c % 64) ∷ [])))

unfoldable pub encode_text : List ℕ → Bytes
encode_text [] = []
encode_text (c ∷ cs) = encode_utf8 c ++ encode_text cs

-- 01, Text run: a text without the white space in front, and without that at the back
unfoldable pub skip_white : List ℕ → List ℕ
skip_white [] = []
skip_white (c ∷ cs) = pick (white_space c) (skip_white cs) (c ∷ cs)

unfoldable pub skip_white_back : List ℕ → List ℕ
skip_white_back cs = reverse (skip_white (reverse cs))
