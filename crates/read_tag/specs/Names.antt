-- What the scans of names promise, by the grammar's words and by what its reader does there. Main definitions: `Scanned`,
-- `NamePut`, `NamesCompared`.
-- Assumes nothing: these are definitions.
use Rattle.std.specs.Prelude.{ℕ, ◌+◌, ◌-◌, ◌≤◌, ◌<◌, ◌≡◌, Bool, true, [], ◌∷◌, T, eqb, length, take, drop, get_or, Option, Some, None}
use Rattle.field.specs.Bytes.{Bytes}
use Rattle.field.specs.Row.{bytes}
use Rattle.field.specs.Put.{Wrote}
use Rattle.page.specs.Encode.{texts_row}
use Rattle.grammar.specs.Signs.{choose, letter, name_byte, separator, space, name_goes_on}
use Rattle.grammar.specs.Syntax.{Name, tag_name_fits, same_name}
use Rattle.grammar.specs.Grammar.{Ends, IsName}
use Rattle.grammar.specs.Reader.{For, State, in_ident, refused, fits, named, no_reading, outcome}
use Rattle.tag_tree.specs.PageTag.{idents}
use Rattle.read_tag.specs.Runs.{Ran}
use Rattle.read_tag.specs.Progress.{name_bytes}
use Rattle.read_tag.specs.Shapes.{name_tag}
use Rattle.read_tag.specs.declared.name.NamePart.{NamePart}
use Rattle.read_tag.specs.declared.name.NameParts.{NameParts}
use Rattle.read_tag.specs.declared.name.ScannedName.{ScannedName}

-- what follows an identifier that ends at e: white space alone; or a sign and where the next identifier may begin
pub data Behind (s : Bytes) (e : ℕ) : Option ℕ → ℕ → Type 0 where
  last : {n : ℕ} → Ran space s e n → Ends name_goes_on (drop n s) → Behind s e None n
  parted : {k n : ℕ} → Ran space s e k → k < length s → T (separator (get_or s k 0)) → Ran space s (k + 1) n → Behind s e (Some (get_or s k 0)) n

-- the part of a name at i
pub record PartAt (s : Bytes) (i : ℕ) (r : NamePart) : Type 0 where
  pub end : ℕ
  pub word_is : r.word.now ≡ take (end - i) (drop i s)
  pub ran : Ran name_byte s (i + 1) end
  pub behind : Behind s end r.sign r.next

-- ---- the parts one after the other, by the place where the next begins

abbrev pub place_behind : Option ℕ → ℕ → Option ℕ
place_behind None n = None
place_behind (Some d) n = Some n

-- a part at i is passed, and the next begins at k
pub record Passed (s : Bytes) (i : ℕ) (r : NamePart) (k : Option ℕ) : Type 0 where
  pub inside : i < length s
  pub part : PartAt s i r
  pub then : k ≡ place_behind r.sign r.next

-- a step from the place where the next part begins, which leaves k: none is left, or the text ends there, or a part is passed
abbrev pub PartStep : Bytes → Option ℕ → Option NamePart → Option ℕ → Type 0
PartStep s None None k = k ≡ None
PartStep s None (Some r) k = ⊥
PartStep s (Some i) None k = length s ≤ i
PartStep s (Some i) (Some r) k = Passed s i r k

abbrev pub GivesPart : NameParts → Option NamePart → NameParts → Type 0
GivesPart x r y = (y.text.now ≡ x.text.now) × PartStep x.text.now x.at r y.at

abbrev left_at : Option ℕ → ℕ → ℕ
left_at None n = 0
left_at (Some i) n = n - i

abbrev pub parts_left : NameParts → ℕ
parts_left x = left_at x.at (length x.text.now)

-- the reader behind the name m, which was read for x
unfoldable pub named_if : For → Name → State
named_if x m = choose (fits x m) (named x m) refused

-- a letter stands at i
abbrev pub LetterAt : Bytes → ℕ → Type 0
LetterAt s i = (i < length s) × (letter (get_or s i 0) ≡ true)

-- a name stands at i
pub record NameAt (s : Bytes) (i : ℕ) : Type 0 where
  pub name : Name
  pub rest : Bytes
  pub is : IsName (drop i s) name rest

-- one of 01's names stands there, its field has that tag, and behind it and white space the reader goes on, whatever it reads the name for
pub record FoundName (s : Bytes) (i tag e : ℕ) : Type 0 where
  pub after : i < e
  pub inside : e ≤ length s
  pub name : Name
  pub is : IsName (drop i s) name (drop e s)
  pub fits_tag : T (tag_name_fits name)
  pub tag_is : tag ≡ name_tag name
  pub leads : (x : For) → outcome (in_ident [] 0 (get_or s i 0 ∷ []) x) (drop (i + 1) s) ≡ outcome (named_if x name) (drop e s)

-- whatever the name at i is read for: no reading, or a name of 01's
unfoldable pub Scanned : Bytes → ℕ → Option ScannedName → Type 0
Scanned s i None = (x : For) → outcome (in_ident [] 0 (get_or s i 0 ∷ []) x) (drop (i + 1) s) ≡ no_reading
Scanned s i (Some r) = FoundName s i r.tag r.end

-- ---- the name's field, and two names compared

unfoldable pub parts_bytes : Name → Bytes
parts_bytes n = bytes (texts_row 0x40 (idents n))

-- whatever name stands at i, a 40 for each of its parts was written
unfoldable pub PartsPut : Bytes → ℕ → Bytes → ℕ → Bytes → ℕ → Type 0
PartsPut s i o at o' r = (n : Name) (rest : Bytes) → IsName (drop i s) n rest → Wrote o at (parts_bytes n) o' r

-- its field was written, where it ends at e, is one of 01's and has that tag
unfoldable pub NamePut : Bytes → ℕ → ℕ → ℕ → Bytes → ℕ → Bytes → ℕ → Type 0
NamePut s i tag e o at o' r = (n : Name) → IsName (drop i s) n (drop e s) → T (tag_name_fits n) → tag ≡ name_tag n → Wrote o at (name_bytes n) o' r

-- whatever names stand at i and j, they are the same or not
unfoldable pub NamesCompared : Bytes → ℕ → ℕ → Bool → Type 0
NamesCompared s i j b = (m n : Name) (x y : Bytes) → IsName (drop i s) m x → IsName (drop j s) n y → b ≡ same_name m n

-- the depth of the innermost fields of a name whose own field stands at d: a 40 holds none, a 41 and a 42 hold 40s
unfoldable pub name_depth : (tag d : ℕ) → ℕ
name_depth tag d = choose (eqb tag 0x40) d (d + 1)
