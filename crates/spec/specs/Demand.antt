-- Demand 3, of the bytes of both outputs up to their written ends, in 01's words: recorded, called at any depth, dynamic expressions of a
-- call, helper called and imported. Assumes nothing: these are definitions.
use Rattle.std.specs.Prelude.{ℕ, zero, suc, ◌+◌, ◌/◌, ◌%◌, ◌≡◌, Bool, false, ◌&&◌, ◌||◌, List, [], ◌∷◌, T, eqb, leb, length, take, drop}
use Rattle.field.specs.Bytes.{Bytes}
use Rattle.field.specs.Number.{number_of}
use Rattle.field.specs.Row.{Row, end, loose, field, read}
use Rattle.spec.specs.Output.{kind_bytes}
use Rattle.spec.specs.Transform.{stands, bit}
use Rattle.spec.specs.Words.{Comparison, WellNestedBy, places, filled, AllFit}

-- a front that begins with the number m: four bytes (02, A6)
unfoldable pub begins : ℕ → Bytes → Bool
begins m f = leb 4 (length f) && eqb (number_of (take 4 f)) m

-- the count and the kinds in the front of an 84
abbrev pub count_in : Bytes → ℕ
count_in f = number_of (take 2 (drop 4 f))

abbrev pub kinds_behind : Bytes → Bytes
kinds_behind f = drop 6 f

-- how many 84s of a row begin with m
unfoldable pub recorded_in : ℕ → Row → ℕ
recorded_in m end = 0
recorded_in m (loose b) = 0
recorded_in m (field t f i r) = bit (eqb t 0x84 && begins m f) 1 + recorded_in m r

-- how many 84s
unfoldable pub templates_in : Row → ℕ
templates_in end = 0
templates_in (loose b) = 0
templates_in (field t f i r) = bit (eqb t 0x84) 1 + templates_in r

-- how many 90s, at any depth, begin with m
unfoldable pub called_in : ℕ → Row → ℕ
called_in m end = 0
called_in m (loose b) = 0
called_in m (field t f i r) = bit (eqb t 0x90 && begins m f) 1 + (called_in m i + called_in m r)

-- 1 for the numbers from 1 to n, 0 for the others
unfoldable pub up_to : ℕ → ℕ → ℕ
up_to m zero = 0
up_to m (suc n) = bit (eqb (suc n) m) 1 + up_to m n

-- the strings of an 84: its 81s, in order
unfoldable pub strings_in : Row → List Bytes
strings_in end = []
strings_in (loose b) = []
strings_in (field t f i r) = f ∷ strings_in r

-- the dynamic expressions of a 90: for each of its fields, whether it is a 91 or a 93
unfoldable pub kinds_in : Row → List Bool
kinds_in end = []
kinds_in (loose b) = []
kinds_in (field t f i r) = (eqb t 0x91 || eqb t 0x93) ∷ kinds_in r

-- all fields of a row have that tag, and nothing loose stands behind them
unfoldable pub AllTags : ℕ → Row → Type 0
AllTags u end = Unit {0}
AllTags u (loose b) = ⊥
AllTags u (field t f i r) = T (eqb t u) × AllTags u r

-- a statement of each 84, and of each 90 at any depth: of its front and its fields
unfoldable pub Each84 : (Bytes → Row → Type 0) → Row → Type 0
Each84 P end = Unit {0}
Each84 P (loose b) = Unit {0}
Each84 P (field t f i r) = (T (eqb t 0x84) → P f i) × Each84 P r

unfoldable pub Each90 : (Bytes → Row → Type 0) → Row → Type 0
Each90 P end = Unit {0}
Each90 P (loose b) = Unit {0}
Each90 P (field t f i r) = (T (eqb t 0x90) → P f i) × (Each90 P i × Each90 P r)

-- ---- helpers

pub data Helper : Type 0 where
  jsx jsx_template jsx_attr jsx_escape : Helper

abbrev pub helper_tag : Helper → ℕ
helper_tag jsx = 0x94
helper_tag jsx_template = 0x90
helper_tag jsx_attr = 0x91
helper_tag jsx_escape = 0x92

-- the sum counts a helper
unfoldable pub counts : Helper → ℕ → Bool
counts jsx n = eqb (n % 2) 1
counts jsx_template n = eqb (n / 2 % 2) 1
counts jsx_attr n = eqb (n / 4 % 2) 1
counts jsx_escape n = eqb (n / 8 % 2) 1

-- the byte behind the 81 of an 82
unfoldable pub sum_in : Row → ℕ
sum_in end = 0
sum_in (loose []) = 0
sum_in (loose (c ∷ cs)) = c
sum_in (field t f i r) = sum_in r

-- an 82 whose sum counts the helper
unfoldable pub imported_in : Helper → Row → Bool
imported_in h end = false
imported_in h (loose b) = false
imported_in h (field t f i r) = (eqb t 0x82 && counts h (sum_in i)) || imported_in h r

-- ---- the statement

-- a template by itself: strings and nothing else, one more than it counts; for each gap a kind, 1 exactly where it lies inside an opening tag
-- (02, A6); and every fitting filling is well nested, in small letters (02, A10) and by bytes as well
pub record SoundTemplate (front : Bytes) (strings : Row) : Type 0 where
  pub only_strings : AllTags 0x81 strings
  pub one_more_than_counted : length (strings_in strings) ≡ suc (count_in front)
  pub kinds_in_place : kinds_behind front ≡ kind_bytes (places (strings_in strings))
  pub nested : (how : Comparison) (fs : List Bytes) → AllFit how (places (strings_in strings)) fs → WellNestedBy how (filled (strings_in strings) fs)

-- a template and the dynamic expressions of its call: as many as it counts, each a 91 or a 93 exactly where it lies inside an opening tag, and
-- exactly where its kind is 1
pub record Suits (front : Bytes) (strings gaps : Row) : Type 0 where
  pub one_string_more : length (strings_in strings) ≡ suc (length (kinds_in gaps))
  pub counted : count_in front ≡ length (kinds_in gaps)
  pub in_place : places (strings_in strings) ≡ kinds_in gaps
  pub of_kind : kinds_behind front ≡ kind_bytes (kinds_in gaps)

pub record Demand3 (templates page : Row) (count : ℕ) : Type 0 where
  pub only_templates : AllTags 0x84 templates
  pub count_is : templates_in templates ≡ count
  pub recorded_once : (m : ℕ) → recorded_in m templates ≡ up_to m count
  pub called_once : (m : ℕ) → called_in m page ≡ up_to m count
  pub each_sound : Each84 SoundTemplate templates
  pub each_suits : Each84 (λ front strings. Each90 (λ called gaps. (m : ℕ) → T (begins m front) → T (begins m called) → Suits front strings gaps) page) templates
  pub no_element_left : stands 0x30 page ≡ false
  pub no_fragment_left : stands 0x31 page ≡ false
  pub imported : (h : Helper) → imported_in h page ≡ stands (helper_tag h) page

unfoldable pub Demand3Bytes : (templates page : Bytes) (count : ℕ) → Type 0
Demand3Bytes templates page count = Demand3 (read templates) (read page) count
