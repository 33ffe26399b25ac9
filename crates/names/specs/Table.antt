-- How the code reads a name and the rows of its tables. Nothing here has to be believed: the laws tie each to the definitions of Names.
-- Assumes nothing: these are definitions.
use Rattle.std.specs.Prelude.{ℕ, zero, suc, ◌+◌, ◌-◌, ◌≤◌, ◌<◌, ◌/◌, ◌%◌, ◌^◌, Bool, true, false, ◌&&◌, ◌||◌, List, [], ◌∷◌, ◌++◌, leb, ltb, eqb, length, take, drop, get_or, slice_get, is_some, Option, Some, None}
use Rattle.field.specs.Bytes.{Bytes, ascii, pick, same}
use Rattle.text.specs.Escape.{escape_html}
use Rattle.names.specs.Names.{capital, small_letter, small_letters, is_void_element}
use Rattle.names.specs.declared.elements.Void.{Void}
use Rattle.names.specs.declared.elements.Void.TheVariants.{AsWritten, InSmallLetters}
use Rattle.names.specs.declared.listed.Spelling.{Spelling}
use Rattle.names.specs.declared.listed.Spelling.TheVariants.{Whole, Signed, Small}

-- a name as it stands, or in small letters
abbrev pub read_as : Bool → Bytes → Bytes
read_as small n = pick small (small_letters n) n

-- some name of the table has this length and this first letter: of the entry at a length, the bit that the first letter modulo 32 says
unfoldable pub fits_in : List ℕ → Bytes → Bool
fits_in firsts [] = false
fits_in firsts (c ∷ cs) = eqb (get_or firsts (suc (length cs)) 0 / 2 ^ (c % 32) % 2) 1

-- some name of a table has this length, this first letter and this last letter: of the entry at a length, the bit that the first letter
-- modulo 32 says, and, 32 above it, the bit that the last says
unfoldable pub fits_ends : List ℕ → Bytes → Bool
fits_ends ends n = eqb (get_or ends (length n) 0 / 2 ^ (get_or n 0 0 % 32) % 2) 1 && eqb (get_or ends (length n) 0 / 2 ^ (get_or n (length n - 1) 0 % 32 + 32) % 2) 1

-- the entries for the void names
unfoldable pub void_ends : List ℕ
void_ends = 0 ∷ 0 ∷ 0x4000000000104 ∷ 0x4108000800208 ∷ 0x82200003006 ∷ 0x10281000110220 ∷ 0x2000080000 ∷ []

-- a void name, or one that is void in small letters alone
abbrev pub void_kind : Bytes → Option Void
void_kind n = pick (is_void_element n) (Some AsWritten) (pick (is_void_element (small_letters n)) (Some InSmallLetters) None)

-- a table is rows of names, the shorter names first, and starts says where the names of each length begin: the row of length l
unfoldable pub row_of : Bytes → List ℕ → ℕ → Bytes
row_of names starts l = take (get_or starts (l + 1) 0 - get_or starts l 0) (drop (get_or starts l 0) names)

-- a table of so many bytes has that row
pub record HasRow (size : ℕ) (starts : List ℕ) (l : ℕ) : Type 0 where
  pub within : l + 1 < length starts
  pub rising : get_or starts l 0 ≤ get_or starts (l + 1) 0
  pub inside : get_or starts (l + 1) 0 ≤ size

-- a row holds names of one length, each with a mark behind it: the mark behind the name n, if it is there. So many bytes are passed over
-- first
unfoldable pub mark_from : Bytes → ℕ → Bytes → Option ℕ
mark_from n k [] = None
mark_from n (suc k) (c ∷ row) = mark_from n k row
mark_from n zero (c ∷ row) = pick (same (take (length n) (c ∷ row)) n) (slice_get (c ∷ row) (length n)) (mark_from n (length n) row)

abbrev pub mark_in : Bytes → Bytes → Option ℕ
mark_in row n = mark_from n 0 row

-- the table has the name, as it stands or in small letters
unfoldable pub has_name : Bytes → List ℕ → Bool → Bytes → Bool
has_name names starts small n = is_some (mark_in (row_of names starts (length n)) (read_as small n))

-- a sign, where there is one, and a letter behind it
abbrev pub signed : Option ℕ → ℕ → Bytes
signed None c = c ∷ []
signed (Some s) c = s ∷ c ∷ []

-- a capital as its small letter, with the sign in front of it
unfoldable pub spelled_letter : Option ℕ → ℕ → Bytes
spelled_letter s c = pick (capital c) (signed s (c + 32)) (c ∷ [])

unfoldable pub spelled : Option ℕ → Bytes → Bytes
spelled s [] = []
spelled s (c ∷ cs) = spelled_letter s c ++ spelled s cs

-- what a mark of the attributes' table says: 0 stays, 1 class, 2 for, 3 href, 4 panose-1, 5 a colon before each capital; any other a hyphen.
-- A name without a mark goes to small letters
unfoldable pub by_mark : Option ℕ → Bytes → Bytes
by_mark None n = spelled None n
by_mark (Some m) n =
    pick (eqb m 0) n
    (pick (eqb m 1) (ascii "class")
    (pick (eqb m 2) (ascii "for")
    (pick (eqb m 3) (ascii "href") (pick (eqb m 4) (ascii "panose-1") (pick (eqb m 5) (spelled (Some 58) n) (spelled (Some 45) n))))))

-- the first k letters, and the next one in small behind a hyphen
unfoldable pub front : ℕ → Bytes → Bytes
front k n = take k n ++ (45 ∷ small_letter (get_or n k 0) ∷ [])

-- the name with its hyphens, by the places of its capitals: so many letters before the first, and how far behind that the second is, 0 where
-- there is none
unfoldable pub by_places : ℕ → ℕ → Bytes → Bytes
by_places k d n = front k n ++ pick (eqb d 0) (drop (k + 1) n) (front (d - 1) (drop (k + 1) n) ++ drop d (drop (k + 1) n))

-- these are the places of its capitals, and what stands behind the last is no more than sixteen letters
unfoldable pub places_are : ℕ → ℕ → Bytes → Bool
places_are k d n = (ltb (k + d) (length n) && leb (length n) (k + d + 17)) && same (by_places k d n) (spelled (Some 45) n)

-- what else is known of a name that has a mark: it has no sign that is escaped, and the places are right
unfoldable pub told : Option ℕ → Bytes → Bool
told None n = true
told (Some m) n = same n (escape_html n) && (ltb m 6 || places_are (m / 16) (m % 16) n)

-- what a spelling stands for
unfoldable pub spelt : Spelling → Bytes → Bytes
spelt (Whole w) n = w.now
spelt (Signed s) n = spelled (Some s) n
spelt Small n = spelled None n

-- small letters, `-` and what else is above the capitals: no capital, no digit and no sign that is escaped
unfoldable pub plain_name : Bytes → Bool
plain_name [] = true
plain_name (c ∷ cs) = (eqb c 45 || leb 91 c) && plain_name cs
