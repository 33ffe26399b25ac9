-- The bytes of a catalogue, what they read as, and when bytes hold these pages. Assumes nothing: these are definitions.
use Rattle.std.specs.Prelude.{ℕ, zero, suc, ◌+◌, ◌-◌, ◌≤◌, ◌≡◌, Bool, true, false, ◌&&◌, ◌||◌, not, List, [], ◌∷◌, ◌++◌, leb, eqb, length, take, drop, replicate}
use Rattle.field.specs.Bytes.{Bytes, pick}
use Rattle.field.specs.Number.{big_endian, number_of}
use Rattle.catalogue.specs.Page.{Body, Page, house_width, house_bytes, house_in, house_right, Format, Sound}

-- ---- built

-- A13: a page begins with 97; then come its name and the lengths of its two parts, in four bytes each, and the parts. A14: between name and
-- lengths comes its house. n templates are recorded before it
abbrev pub behind_lengths : Body → Bytes → Bytes
behind_lengths x r = x.templates ++ (x.page_out ++ r)

abbrev pub lengths : Body → Bytes → Bytes
lengths x r = big_endian 4 (length x.templates) [] ++ (big_endian 4 (length x.page_out) [] ++ behind_lengths x r)

unfoldable pub page_then : Format → ℕ → Page → Bytes → Bytes
page_then F n p r = 0x97 ∷ (big_endian 4 p.name [] ++ (house_bytes F.request p.house ++ lengths (F.up n p.body) r))

unfoldable pub row : Format → ℕ → List Page → Bytes → Bytes
row F n [] r = r
row F n (p ∷ ps) r = page_then F n p (row F (n + F.forms p.body) ps r)

-- the templates of some pages together
unfoldable pub forms_of : Format → List Page → ℕ
forms_of F [] = 0
forms_of F (p ∷ ps) = F.forms p.body + forms_of F ps

-- how many bytes a page has, its 97 among them
unfoldable pub size : Format → Page → ℕ
size F p = 13 + house_width F.request + length p.body.templates + length p.body.page_out

unfoldable pub row_size : Format → List Page → ℕ
row_size F [] = 0
row_size F (p ∷ ps) = size F p + row_size F ps

-- A13: behind the pages all is zero
unfoldable pub build : Format → ℕ → List Page → Bytes
build F n ps = row F 0 ps (replicate (n - row_size F ps) 0)

-- ---- read

pub data Reading : Type 0 where
  no_row : Reading
  pages : List Page → Reading

unfoldable pub add : Page → Reading → Reading
add p no_row = no_row
add p (pages ps) = pages (p ∷ ps)

unfoldable pub all_zero : Bytes → Bool
all_zero [] = true
all_zero (c ∷ b) = eqb c 0 && all_zero b

abbrev pub four : Bytes → ℕ
four b = number_of (take 4 b)

-- the bytes b behind a 97: where the lengths stand, and the parts by these lengths
abbrev pub at_lengths : Format → Bytes → Bytes
at_lengths F b = drop (house_width F.request) (drop 4 b)

abbrev pub body_in : Bytes → Body
body_in b = record { templates = take (four b) (drop 4 (drop 4 b)); page_out = take (four (drop 4 b)) (drop (four b) (drop 4 (drop 4 b))) }

unfoldable pub page_in : Format → ℕ → Bytes → Page
page_in F n b = record { name = four b; house = house_in F.request (drop 4 b); body = F.down n (body_in (at_lengths F b)) }

abbrev pub behind_body : Bytes → Bytes
behind_body b = drop (four (drop 4 b)) (drop (four b) (drop 4 (drop 4 b)))

abbrev pub behind : Format → Bytes → Bytes
behind F b = behind_body (at_lengths F b)

-- the parts lie within b
abbrev pub within : Bytes → Bool
within b = leb 8 (length b) && leb (8 + four b + four (drop 4 b)) (length b)

unfoldable pub page_right : Format → Bytes → Page → Bool
page_right F b p = leb (4 + house_width F.request) (length b) && (within (at_lengths F b) && (house_right F.request p.house && eqb (F.judge p.body) 0))

unfoldable pub read_page : Format → (ℕ → Bytes → Reading) → ℕ → Bytes → Page → Reading
read_page F f n b p = pick (page_right F b p) (add p (f (n + F.forms p.body) (behind F b))) no_row

-- the first argument falls at each page; the count of bytes and one more is enough
unfoldable pub read_row : Format → ℕ → ℕ → Bytes → Reading
read_row F zero n b = no_row
read_row F (suc k) n [] = pages []
read_row F (suc k) n (c ∷ b) = pick (eqb c 0x97) (read_page F (read_row F k) n b (page_in F n b)) (pick (all_zero (c ∷ b)) (pages []) no_row)

unfoldable pub present : ℕ → List Page → Bool
present x [] = false
present x (p ∷ ps) = eqb x p.name || present x ps

unfoldable pub names_differ : List Page → Bool
names_differ [] = true
names_differ (p ∷ ps) = not (present p.name ps) && names_differ ps

unfoldable pub no_name_twice : Reading → Reading
no_name_twice no_row = no_row
no_name_twice (pages ps) = pick (names_differ ps) (pages ps) no_row

-- A13: at most so many bytes
abbrev pub most_bytes : ℕ
most_bytes = 16777216

-- A13: a longer one, one that is no row of sound pages, and one in which two pages have one name are no catalogue
unfoldable pub read_catalogue : Format → Bytes → Reading
read_catalogue F b = pick (leb (length b) most_bytes) (no_name_twice (read_row F (suc (length b)) 0 b)) no_row

-- ---- what must be believed: these bytes are the catalogue of these pages

pub data AllSound (F : Format) : List Page → Type 0 where
  none_left : AllSound F []
  one_sound : {p : Page} {ps : List Page} → Sound F p → AllSound F ps → AllSound F (p ∷ ps)

pub record Holds (F : Format) (b : Bytes) (ps : List Page) : Type 0 where
  pub short : length b ≤ most_bytes
  pub all_sound : AllSound F ps
  pub differ : names_differ ps ≡ true
  pub fits : row_size F ps ≤ length b
  pub is_built : b ≡ build F (length b) ps
