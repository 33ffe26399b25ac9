-- 01, The card: the printed text of a page's outcome, on the rows that both outputs read as. Assumes nothing: these are definitions.
use Rattle.std.specs.Prelude.{ℕ, ◌+◌, ◌/◌, ◌%◌, Bool, true, false, ◌&&◌, ◌||◌, [], ◌∷◌, ◌++◌, eqb, leb, ltb, take}
use Rattle.field.specs.Bytes.{Bytes, ascii, pick}
use Rattle.field.specs.Number.{number_of}
use Rattle.field.specs.Row.{Row, end, loose, field, read}
use Rattle.text.specs.Decimal.{decimal}
use Rattle.printing.specs.Front.{front_in, inner_in}
use Rattle.page.specs.Number.{is_number, is_minus, number_in, render}
use Rattle.page.specs.Tree.{choose, boolean_in}
use Rattle.page.specs.Check.{name_start}
use Rattle.refusal.specs.Refusal.{refusal_number}
use Rattle.spec.specs.Answer.{Outcome, refused, accepted, outcome}

-- ---- strings and names

abbrev pub hex_digit : ℕ → ℕ
hex_digit n = pick (ltb n 10) (48 + n) (87 + n)

-- \" \\ \n \r, other bytes under hex 20 and 7F as \x and two small hex digits
unfoldable pub quoted_byte : ℕ → Bytes
quoted_byte c =
    pick (eqb c 34 || eqb c 92) (92 ∷ c ∷ [])
    (pick (eqb c 10) (92 ∷ 110 ∷ [])
    (pick (eqb c 13) (92 ∷ 114 ∷ [])
    (pick (ltb c 32 || eqb c 127) (92 ∷ 120 ∷ hex_digit (c / 16) ∷ hex_digit (c % 16) ∷ []) (c ∷ []))))

unfoldable pub quoted_bytes : Bytes → Bytes
quoted_bytes [] = []
quoted_bytes (c ∷ cs) = quoted_byte c ++ quoted_bytes cs

abbrev pub quoted : Bytes → Bytes
quoted b = 34 ∷ (quoted_bytes b ++ (34 ∷ []))

-- is_text_valid_identifier: a letter, `_` or `$`, and then digits too
unfoldable pub goes_on : Bytes → Bool
goes_on [] = true
goes_on (c ∷ cs) = (name_start c || (leb 48 c && leb c 57)) && goes_on cs

unfoldable pub is_identifier : Bytes → Bool
is_identifier [] = false
is_identifier (c ∷ cs) = name_start c && goes_on cs

-- a property's name: bare, or in quotes
abbrev pub prop_name : Bytes → Bytes
prop_name n = pick (is_identifier n) n (quoted n)

-- the bytes of the first field, and of the second
abbrev pub first_front : Row → Bytes
first_front end = []
first_front (loose b) = []
first_front (field t f i r) = f

abbrev pub second_front : Row → Bytes
second_front end = []
second_front (loose b) = []
second_front (field t f i r) = first_front r

-- members with points between
unfoldable pub pointed_more : Row → Bytes
pointed_more end = []
pointed_more (loose b) = []
pointed_more (field t f i r) = 46 ∷ (f ++ pointed_more r)

unfoldable pub pointed : Row → Bytes
pointed end = []
pointed (loose b) = []
pointed (field t f i r) = f ++ pointed_more r

-- by the four bytes in front (02, A6)
abbrev pub template_name : Bytes → Bytes
template_name f = ascii "$$_tpl_" ++ decimal (number_of (take 4 f))

-- ---- expressions

-- by the tag: f is the field's front, i what it holds; then the texts of what it holds: one after the other, parted by `, `, each behind a
-- `, `, the first alone, the second alone
unfoldable pub text_by : ℕ → Bytes → Row → (all parted behind first second : Unit {0} → Bytes) → Bytes
text_by t f i all parted behind first second =
    choose (eqb t 0x20 || (eqb t 0x40 || eqb t 0x74)) (λ _. f) λ _.
    choose (eqb t 0x41) (λ _. pointed i) λ _.
    choose (eqb t 0x70 || eqb t 0x81) (λ _. quoted f) λ _.
    choose (is_number t) (λ _. render (number_in t f)) λ _.
    choose (eqb t 0x72) (λ _. pick (boolean_in f) (ascii "true") (ascii "false")) λ _.
    choose (eqb t 0x73) (λ _. ascii "null") λ _.
    choose (is_minus t) (λ _. 45 ∷ render (number_in t f)) λ _.
    choose (eqb t 0x76) (λ _. 91 ∷ (parted tt ++ (93 ∷ []))) λ _.
    choose (eqb t 0x53 || eqb t 0x77) (λ _. ascii "..." ++ first tt) λ _.
    choose (eqb t 0x79) (λ _. all tt) λ _.
    choose (eqb t 0x90) (λ _. ascii "_jsxTemplate(" ++ (template_name f ++ (behind tt ++ (41 ∷ [])))) λ _.
    choose (eqb t 0x91) (λ _. ascii "_jsxAttr(" ++ (parted tt ++ (41 ∷ []))) λ _.
    choose (eqb t 0x92) (λ _. ascii "_jsxEscape(" ++ (parted tt ++ (41 ∷ []))) λ _.
    choose (eqb t 0x93) (λ _. first tt ++ (ascii " ? " ++ (quoted (second_front i) ++ ascii " : \"\""))) λ _.
    choose (eqb t 0x94) (λ _. ascii "_jsx(" ++ (parted tt ++ (41 ∷ []))) λ _.
    choose (eqb t 0x95) (λ _. ascii "{ " ++ (parted tt ++ ascii " }")) λ _.
    choose (eqb t 0x96) (λ _. prop_name (first_front i) ++ (ascii ": " ++ second tt)) λ _. []

unfoldable mutual
  -- one after the other
  pub all_text : Row → Bytes
  all_text end = []
  all_text (loose b) = []
  all_text (field t f i r) = text_by t f i (λ _. all_text i) (λ _. parted_text i) (λ _. behind_text i) (λ _. first_text i) (λ _. second_text i) ++ all_text r

  -- `, ` between
  pub parted_text : Row → Bytes
  parted_text end = []
  parted_text (loose b) = []
  parted_text (field t f i r) = text_by t f i (λ _. all_text i) (λ _. parted_text i) (λ _. behind_text i) (λ _. first_text i) (λ _. second_text i) ++ behind_text r

  -- `, ` before each
  pub behind_text : Row → Bytes
  behind_text end = []
  behind_text (loose b) = []
  behind_text (field t f i r) = 44 ∷ 32 ∷ (text_by t f i (λ _. all_text i) (λ _. parted_text i) (λ _. behind_text i) (λ _. first_text i) (λ _. second_text i) ++ behind_text r)

  pub first_text : Row → Bytes
  first_text end = []
  first_text (loose b) = []
  first_text (field t f i r) = text_by t f i (λ _. all_text i) (λ _. parted_text i) (λ _. behind_text i) (λ _. first_text i) (λ _. second_text i)

  pub second_text : Row → Bytes
  second_text end = []
  second_text (loose b) = []
  second_text (field t f i r) = first_text r

-- the text of a field by its tag and its two parts, and by its tag and body
abbrev pub text_of : ℕ → Bytes → Row → Bytes
text_of t f i = text_by t f i (λ _. all_text i) (λ _. parted_text i) (λ _. behind_text i) (λ _. first_text i) (λ _. second_text i)

abbrev pub field_text : ℕ → Bytes → Bytes
field_text t w = text_of t (front_in t w) (read (inner_in t w))

-- ---- lines

-- the helpers of the sum, in the order of 82; `later` where one stands before
unfoldable pub helper_text : (stands later : Bool) → Bytes → Bytes
helper_text true true n = ascii ", " ++ (n ++ (ascii " as _" ++ n))
helper_text true false n = n ++ (ascii " as _" ++ n)
helper_text false later n = []

abbrev pub odd : ℕ → Bool
odd n = eqb (n % 2) 1

unfoldable pub helpers_text : ℕ → Bytes
helpers_text n =
    helper_text (odd n) false (ascii "jsx") ++
    (helper_text (odd (n / 2)) (odd n) (ascii "jsxTemplate") ++
    (helper_text (odd (n / 4)) (odd n || odd (n / 2)) (ascii "jsxAttr") ++
    helper_text (odd (n / 8)) (odd n || (odd (n / 2) || odd (n / 4))) (ascii "jsxEscape")))

-- the sum stands behind the source, in one byte
abbrev pub sum_behind : Row → ℕ
sum_behind end = 0
sum_behind (loose b) = number_of (take 1 b)
sum_behind (field t f i r) = 0

abbrev pub sum_in : Row → ℕ
sum_in end = 0
sum_in (loose b) = 0
sum_in (field t f i r) = sum_behind r

unfoldable pub import_text : Row → Bytes
import_text i = ascii "import { " ++ (helpers_text (sum_in i) ++ (ascii " } from " ++ (quoted (first_front i) ++ (59 ∷ 10 ∷ []))))

-- the forms, each on a line
unfoldable pub templates_text : Row → Bytes
templates_text end = []
templates_text (loose b) = []
templates_text (field t f i r) = (ascii "const " ++ (template_name f ++ (ascii " = [" ++ (parted_text i ++ ascii "];")))) ++ (10 ∷ templates_text r)

-- the items; where 83 stands the forms
unfoldable pub page_text : (templates : Row) → Row → Bytes
page_text ts end = []
page_text ts (loose b) = []
page_text ts (field t f i r) =
    choose (eqb t 0x82) (λ _. import_text i) (λ _.
    choose (eqb t 0x83) (λ _. templates_text ts) λ _.
    choose (eqb t 0x13) (λ _. 59 ∷ 10 ∷ []) λ _. all_text i ++ (10 ∷ [])) ++ page_text ts r

-- ---- what is printed of an outcome

unfoldable pub card_text : Outcome → Bytes
card_text (refused n) = decimal (refusal_number n) ++ (10 ∷ [])
card_text (accepted w) = page_text (read w.templates_out) (read w.page_out)

-- the same by an answer of the export and the outs behind the call, without a word of what the transform is (`answer_printed` of card:
-- the two are equal)
unfoldable pub answer_text : (number bytes_of_templates bytes_of_page : ℕ) → (templates_out page_out : Bytes) → Bytes
answer_text n tb pb t g = pick (eqb n 0) (page_text (read (take tb t)) (read (take pb g))) (decimal n ++ (10 ∷ []))

-- the program: no options, 65,536 bytes for each out; one byte past the limit is read, so that a longer page is seen
unfoldable pub card : Bytes → Bytes
card page = card_text (outcome page [] 65536 65536 65536)
