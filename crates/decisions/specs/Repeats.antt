-- 02, A4: the names that attributes have in HTML, and whether one stands twice; and how the code reads such a name. Main definitions:
-- `html_names`, `repeats`. Assumes nothing: these are definitions.
use Rattle.std.specs.Prelude.{ℕ, suc, ◌+◌, ◌-◌, ◌*◌, ◌/◌, ◌%◌, ◌<◌, Bool, true, false, ◌||◌, ◌&&◌, not, ◌≡◌, List, [], ◌∷◌, ◌++◌, length, get_or, Option, Some, None, option_map}
use denote.Ref.{Bor}
use Rattle.field.specs.Bytes.{Bytes, ascii, pick, same, among}
use Rattle.names.specs.Names.{AttrName, ident, get_attr_name, capital, small_letter, small_letters}
use Rattle.names.specs.Table.{spelled}
use Rattle.field.specs.Row.{read}
use Rattle.field.specs.Front.{behind_of}
use Rattle.page.specs.Page as P
use Rattle.page.specs.Tree.{attributes_in, attr_name_in}
use Rattle.decisions.specs.At.{forbids, serializable}
use Rattle.decisions.specs.declared.repeats.Spelled.{Spelled}
use Rattle.decisions.specs.declared.repeats.Names.{Names}
use Rattle.decisions.specs.declared.repeats.Names.TheVariants.{Different, Unsure}

-- normalised, in small letters
unfoldable pub html_name : AttrName → Bytes
html_name n = small_letters (get_attr_name n true)

-- whatever their values; a spread has no name
unfoldable pub html_names : P.Attributes → List Bytes
html_names P.no_attributes = []
html_names (P.attribute n v as') = html_name n ∷ html_names as'
html_names (P.spread_attribute e as') = html_names as'

-- of the attribute with these fields, and of the attributes in front of a row
abbrev pub name_in : Bytes → Bytes
name_in a = html_name (attr_name_in (read a))

abbrev pub names_in : Bytes → List Bytes
names_in s = html_names (attributes_in (read s))

unfoldable pub repeats : List Bytes → Bool
repeats [] = false
repeats (n ∷ ns) = among n ns || repeats ns

-- ---- as the code reads it

-- a name with the sign before each capital, where there is a sign, and behind it, where there is a second part, a colon and that
unfoldable pub joined : (sign : Option ℕ) (first : Bytes) (second : Option Bytes) → Bytes
joined s p (Some q) = spelled s p ++ (58 ∷ q)
joined s p None = spelled s p

-- the sign that is read before the letter c, where it has not been read
unfoldable pub sign_read : (sign : Option ℕ) (c : ℕ) (behind_sign : Bool) → Option ℕ
sign_read s c behind_sign = pick (not behind_sign && capital c) s None

abbrev pub behind : Option ℕ → Bytes → Bytes
behind None l = l
behind (Some s) l = small_letter s ∷ l

-- what is left to be read of it, in small letters
unfoldable pub left_in : (sign : Option ℕ) (first : Bytes) (second : Option Bytes) (behind_sign : Bool) → Bytes
left_in s [] None b = []
left_in s [] (Some q) b = 58 ∷ small_letters q
left_in s (c ∷ p) q b = behind (sign_read s c b) (small_letter c ∷ left_in s p q false)

-- a name as it stands
pub record IsPlain (n : Bytes) (s : Spelled) : Type 0 where
  pub sign : s.sign ≡ None
  pub first : s.first.now ≡ n
  pub second : s.second ≡ None
  pub behind_sign : s.behind_sign ≡ false

abbrev pub letters : Spelled → Bytes
letters n = left_in n.sign n.first.now (option_map (λ q. q.now) n.second) n.behind_sign

-- ---- hashes, by the codes of a name's bytes

unfoldable pub hash_on : ℕ → Bytes → ℕ
hash_on h [] = h
hash_on h (c ∷ cs) = hash_on ((h * 37 + suc c % 65536) % 4294967296) cs

abbrev pub name_hash : Bytes → ℕ
name_hash n = hash_on 0 n

-- the two places under which a hash is noted, in tables of n bytes
abbrev pub low_half : ℕ → ℕ → ℕ
low_half n h = h % n

abbrev pub high_half : ℕ → ℕ → ℕ
high_half n h = h / 65536 % n

-- ---- keys, by the first letter, the last but one and the last. Where the last is a small letter, normalising changes these but by 32, and but
-- for `className`, `htmlFor` and `xlinkHref`, whose keys are those of `class`, `for` and `href`

abbrev pub key_by : ℕ → ℕ → ℕ → ℕ
key_by c p d = ((c % 32 * 4 + 27) * (d + 14) + p % 32 * 5) % 64

abbrev pub last_letter : Bytes → ℕ
last_letter n = get_or n (length n - 1) 0

-- of one letter, as if 1 stood before it
unfoldable pub letter_key : Bytes → ℕ
letter_key n = key_by (get_or n 0 0) (get_or (1 ∷ n) (length n - 1) 0) (last_letter n)

-- that of the attribute with these fields, where one is told: its name is not dangerouslySetInnerHTML then
abbrev pub Keyed : Bytes → Option ℕ → Type 0
Keyed a None = Unit {0}
Keyed a (Some k) = (k < 64) × (k ≡ letter_key (name_in a)) × (same (get_attr_name (attr_name_in (read a)) false) (ascii "dangerouslySetInnerHTML") ≡ false)

-- ---- a key by both ends, of which 32 more makes no other: normalising keeps it of every identifier

abbrev pub ends_key_by : ℕ → ℕ → ℕ
ends_key_by c d = (c * 16 + 135) * (d % 32 + 14) / 8 % 64

unfoldable pub ends_key : Bytes → ℕ
ends_key n = ends_key_by (get_or n 0 0) (last_letter n)

-- the name of the attribute with these fields, where one is told
abbrev pub ShortIdent : Bytes → Option (Bor Bytes) → Type 0
ShortIdent a None = Unit {0}
ShortIdent a (Some b) = attr_name_in (read a) ≡ ident b.now

-- that of dangerouslySetInnerHTML
abbrev pub inner_html_key : ℕ
inner_html_key = 6

-- of the attribute with these fields
abbrev pub EndsKeyed : Bytes → Option ℕ → Type 0
EndsKeyed a None = Unit {0}
EndsKeyed a (Some k) =
    (k < 64) × (k ≡ ends_key (name_in a)) × ((k ≡ inner_html_key → ⊥) → same (get_attr_name (attr_name_in (read a)) false) (ascii "dangerouslySetInnerHTML") ≡ false)

-- ---- what is told of an element's names

-- of the attributes in front of a row
abbrev pub Told : Bytes → Names → Type 0
Told s Different = repeats (names_in s) ≡ false
Told s Unsure = Unit {0}

-- where none of them keeps the element from being serialized
abbrev pub AttributesTold : Bytes → Option Names → Type 0
AttributesTold s None = forbids (attributes_in (read s)) ≡ true
AttributesTold s (Some n) = (forbids (attributes_in (read s)) ≡ false) × Told s n

-- of an element that is serialized, by the fields of its 30
abbrev pub SerializedTold : (skip b : Bytes) → Option Names → Type 0
SerializedTold k b None = serializable k b ≡ false
SerializedTold k b (Some n) = (serializable k b ≡ true) × Told (behind_of b) n
