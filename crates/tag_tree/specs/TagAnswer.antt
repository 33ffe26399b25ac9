-- What the reader of tag text answers at every text and room: the number, and every byte of what is lent. Main definitions: `IsAnswered`, in
-- the grammar's words, and `tag_outcome`, which computes; proofs/TagExact.antt has them equal.
-- Assumes nothing: these are definitions.
use Rattle.std.specs.Prelude.{ℕ, suc, Bool, true, false, ◌&&◌, not, T, leb, length, replicate}
use Rattle.field.specs.Bytes.{Bytes}
use Rattle.field.specs.Row.{Row, end, loose, field, bytes, long_body}
use Rattle.field.specs.Put.{put}
use Rattle.utf8.specs.Utf8.{utf8}
use Rattle.page.specs.Number as N
use Rattle.page.specs.Number.{in_range}
use Rattle.page.specs.Page as P
use Rattle.page.specs.Encode.{tag_row}
use Rattle.grammar.specs.Known.{Known, whole, minus_whole, decimal, minus_decimal, quoted, boolean, null, other}
use Rattle.grammar.specs.Syntax.{Tag, every_tag, matched}
use Rattle.grammar.specs.Grammar.{ReadsAs, Reads}
use Rattle.grammar.specs.Reader.{Answer, taken, refused_14, refused_15, answer}
use Rattle.tag_tree.specs.PageTag.{page_tag}

-- 02, A3: the refusals of the reader
pub data TagRefusal : Type 0 where
  input_too_long : TagRefusal  -- 2
  not_utf8 : TagRefusal  -- 6
  no_reading : TagRefusal  -- 14
  names_differ : TagRefusal  -- 15: read, if closing names were not compared
  number_too_large : TagRefusal  -- 7
  too_deep : TagRefusal  -- 8
  output_too_long : TagRefusal  -- 11
  tag_too_small : TagRefusal  -- 13

unfoldable pub tag_refusal_number : TagRefusal → ℕ
tag_refusal_number input_too_long = 2
tag_refusal_number not_utf8 = 6
tag_refusal_number no_reading = 14
tag_refusal_number names_differ = 15
tag_refusal_number number_too_large = 7
tag_refusal_number too_deep = 8
tag_refusal_number output_too_long = 11
tag_refusal_number tag_too_small = 13

pub data TagOutcome : Type 0 where
  tag_refused : TagRefusal → TagOutcome
  tag_accepted : P.Tag → TagOutcome

-- ---- limits of what was read

-- 01, 71 and 75; 02, A2: 7A and 7B
unfoldable pub known_in_range : Known → Bool
known_in_range (whole n) = in_range (N.whole n)
known_in_range (minus_whole n) = in_range (N.whole n)
known_in_range (decimal n p) = in_range (N.scaled n p)
known_in_range (minus_decimal n p) = in_range (N.scaled n p)
known_in_range (quoted w) = true
known_in_range (boolean b) = true
known_in_range null = true
known_in_range (other w) = true

unfoldable pub numbers_in_range : Tag → Bool
numbers_in_range t = every_tag t (λ n m. true) known_in_range

-- 01: depth 48, where the fields of the row stand at that depth
unfoldable pub shallow : ℕ → Row → Bool
shallow d end = true
shallow d (loose b) = true
shallow d (field t f i r) = leb d 48 && (shallow (suc d) i && shallow d r)

-- the field of a tag
unfoldable pub tag_field : P.Tag → Row
tag_field t = tag_row t end

unfoldable pub tag_encode : P.Tag → Bytes
tag_encode t = bytes (tag_field t)

-- ---- the answer, in the grammar's words

-- 02, A3: 2, 6, 14 or 15, then 7, 8 (the tag is 3 deep), 11 and 13, each over the whole text
pub data IsAnswered (text : Bytes) (room : ℕ) : TagOutcome → Type 0 where
  is_long : T (not (leb (length text) 32768)) → IsAnswered text room (tag_refused input_too_long)
  is_no_utf8 : T (leb (length text) 32768) → T (not (utf8 text)) → IsAnswered text room (tag_refused not_utf8)
  -- no reading, even with closing names not compared
  has_no_reading : T (leb (length text) 32768) → T (utf8 text) → ((t : Tag) → ReadsAs text t → ⊥) → IsAnswered text room (tag_refused no_reading)
  -- a reading, and closing names that differ in it
  has_other_names : {t : Tag} → T (leb (length text) 32768) → T (utf8 text) → ReadsAs text t → T (not (matched t)) → IsAnswered text room (tag_refused names_differ)
  has_number_over : {t : Tag} → T (leb (length text) 32768) → T (utf8 text) → Reads text t → T (not (numbers_in_range t)) → IsAnswered text room (tag_refused number_too_large)
  is_deep : {t : Tag} → T (leb (length text) 32768) → T (utf8 text) → Reads text t → T (numbers_in_range t) → T (not (shallow 3 (tag_field (page_tag t)))) → IsAnswered text room (tag_refused too_deep)
  has_long_body : {t : Tag} → T (leb (length text) 32768) → T (utf8 text) → Reads text t → T (numbers_in_range t) → T (shallow 3 (tag_field (page_tag t))) → T (long_body (tag_field (page_tag t))) → IsAnswered text room (tag_refused output_too_long)
  has_no_room : {t : Tag} → T (leb (length text) 32768) → T (utf8 text) → Reads text t → T (numbers_in_range t) → T (shallow 3 (tag_field (page_tag t))) → T (not (long_body (tag_field (page_tag t)))) → T (not (leb (length (tag_encode (page_tag t))) room)) → IsAnswered text room (tag_refused tag_too_small)
  is_read : {t : Tag} → T (leb (length text) 32768) → T (utf8 text) → Reads text t → T (numbers_in_range t) → T (shallow 3 (tag_field (page_tag t))) → T (not (long_body (tag_field (page_tag t)))) → T (leb (length (tag_encode (page_tag t))) room) → IsAnswered text room (tag_accepted (page_tag t))

-- ---- the same, computed

-- what must hold, and what follows where it does
unfoldable pub given : Bool → TagRefusal → (Unit {0} → TagOutcome) → TagOutcome
given true n f = f tt
given false n f = tag_refused n

-- A3: 'then 7, 8 (the tag is 3 deep), 11 and 13 follow', each over the whole
unfoldable pub within : (room : ℕ) → Tag → TagOutcome
within room t =
    given (numbers_in_range t) number_too_large λ _.
    given (shallow 3 (tag_field (page_tag t))) too_deep λ _.
    given (not (long_body (tag_field (page_tag t)))) output_too_long λ _.
    given (leb (length (tag_encode (page_tag t))) room) tag_too_small λ _.
    tag_accepted (page_tag t)

-- 14 and 15
unfoldable pub answered : (room : ℕ) → Answer → TagOutcome
answered room (taken t) = within room t
answered room refused_14 = tag_refused no_reading
answered room refused_15 = tag_refused names_differ

-- A3: 'text over 32,768 bytes is 2, not UTF-8 is 6'
unfoldable pub tag_outcome : (text : Bytes) (room : ℕ) → TagOutcome
tag_outcome text room =
    given (leb (length text) 32768) input_too_long λ _.
    given (utf8 text) not_utf8 λ _.
    answered room (answer text)

-- ---- the number, the count, and every byte lent

unfoldable pub tag_number : TagOutcome → ℕ
tag_number (tag_refused n) = tag_refusal_number n
tag_number (tag_accepted t) = 0

unfoldable pub bytes_of_tag : TagOutcome → ℕ
bytes_of_tag (tag_refused n) = 0
bytes_of_tag (tag_accepted t) = length (tag_encode t)

-- refused: all zero; accepted: bytes behind the written end stay
unfoldable pub tag_left : TagOutcome → Bytes → Bytes
tag_left (tag_refused n) b = replicate (length b) 0
tag_left (tag_accepted t) b = put b 0 (tag_encode t)
