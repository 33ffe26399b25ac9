-- How long the printed text is: a string at most four times its bytes and two quotes, an expression at most 16 times its field, and what a
-- page prints far below 2 ^ 63.
-- Main statements: `length_quoted`, `length_prop_name`, `length_pointed`, `length_template_name`; `all_length` and its four; `import_length`,
-- `templates_length`, `page_length`; `page_text_low`, of slices.
-- Assumes nothing.
use mathlib.Core.Bool.{Bool, true, false, ◌||◌}
use Prim.Native.Nat.{ℕ, ◌+◌, ◌*◌, ◌/◌, ◌^◌, ◌≤◌, ◌<◌}
use native.Mathlib.Nat.{mul-le-mul}
use native.Mathlib.Omega.{arith}
use mathlib.Core.List.{[], ◌∷◌, ◌++◌}
use lib.Dec.{eqb, ltb}
use lib.ListN.{length, take, length-append}
use Rattle.field.specs.Bytes.{Bytes, AllBytes, ascii, pick}
use Rattle.field.specs.Number.{number_of}
use Rattle.field.specs.Row.{Row, end, loose, field, bytes, read}
use Rattle.field.proofs.RowLaws.{bytes_read, length_bytes}
use Rattle.text.proofs.DecimalLaws.{length_decimal}
use Rattle.page.specs.Tree.{choose, boolean_in}
use Rattle.page.specs.Number.{is_number, is_minus, number_in}
use Rattle.page.proofs.NumberLaws.{render_length}
use Rattle.printing.specs.Card.{quoted_byte, quoted_bytes, quoted, is_identifier, prop_name, first_front, second_front, pointed_more, pointed, template_name, text_by, all_text, parted_text, behind_text, first_text, second_text, helper_text, odd, helpers_text, sum_in, import_text, templates_text, page_text}

-- ---- strings and names

pick_length : (b : Bool) (x y : Bytes) (n : ℕ) → length x ≤ n → length y ≤ n → length (pick b x y) ≤ n
pick_length true x y n h k = h
pick_length false x y n h k = k

-- `\x` and two digits are the most
length_quoted_byte : (c : ℕ) → length (quoted_byte c) ≤ 4
unfolding quoted_byte
length_quoted_byte c =
    pick_length (eqb c 34 || eqb c 92) _ _ 4 (omega arith)
    (pick_length (eqb c 10) _ _ 4 (omega arith)
    (pick_length (eqb c 13) _ _ 4 (omega arith)
    (pick_length (ltb c 32 || eqb c 127) _ _ 4 (omega arith) (omega arith))))

length_quoted_bytes : (b : Bytes) → length (quoted_bytes b) ≤ 4 * length b
unfolding quoted_bytes
length_quoted_bytes [] = omega arith
length_quoted_bytes (c ∷ cs) = omega (arith, length-append (quoted_byte c) (quoted_bytes cs), length_quoted_byte c, length_quoted_bytes cs)

pub length_quoted : (b : Bytes) → length (quoted b) ≤ 2 + 4 * length b
length_quoted b = omega (arith, length-append (quoted_bytes b) (34 ∷ []), length_quoted_bytes b)

pub length_prop_name : (b : Bytes) → length (prop_name b) ≤ 2 + 4 * length b
length_prop_name b = pick_length (is_identifier b) b (quoted b) (2 + 4 * length b) (omega arith) (length_quoted b)

-- a field's header pays for the point
length_pointed_more : (r : Row) → length (pointed_more r) ≤ length (bytes r)
unfolding pointed_more
length_pointed_more end = omega arith
length_pointed_more (loose b) = omega arith
length_pointed_more (field t f i r) = omega (arith, length-append f (pointed_more r), length_bytes t f i r, length_pointed_more r)

pub length_pointed : (r : Row) → length (pointed r) ≤ length (bytes r)
unfolding pointed
length_pointed end = omega arith
length_pointed (loose b) = omega arith
length_pointed (field t f i r) = omega (arith, length-append f (pointed_more r), length_bytes t f i r, length_pointed_more r)

pub length_template_name : (f : Bytes) → length (template_name f) ≤ 27
length_template_name f = omega (arith, length_decimal (number_of (take 4 f)))

pub length_first_front : (r : Row) → length (first_front r) ≤ length (bytes r)
length_first_front end = omega arith
length_first_front (loose b) = omega arith
length_first_front (field t f i r) = omega (arith, length_bytes t f i r)

-- ---- expressions

choose_length : (b : Bool) (x y : Unit {0} → Bytes) (n : ℕ) → length (x tt) ≤ n → length (y tt) ≤ n → length (choose b x y) ≤ n
unfolding choose
choose_length true x y n h k = h
choose_length false x y n h k = k

-- the texts of a row; the front that a 93 or a 96 prints beside one of them is paid for by the same row
record Lengths (r : Row) : Type 0 where
  all : length (all_text r) ≤ 16 * length (bytes r)
  parted : length (parted_text r) ≤ 16 * length (bytes r)
  behind : length (behind_text r) ≤ 16 * length (bytes r)
  first : length (first_text r) ≤ 16 * length (bytes r)
  choice : length (first_text r) + length (quoted (second_front r)) ≤ 2 + 16 * length (bytes r)
  prop : length (prop_name (first_front r)) + length (second_text r) ≤ 2 + 16 * length (bytes r)

-- what a field prints, and how long it is at most: a template's call has the most bytes of its own, 41
abbrev field_text : ℕ → Bytes → Row → Bytes
field_text t f i = text_by t f i (λ _. all_text i) (λ _. parted_text i) (λ _. behind_text i) (λ _. first_text i) (λ _. second_text i)

abbrev room : Bytes → Row → ℕ
room f i = 41 + 4 * length f + 16 * length (bytes i)

module _ (t : ℕ) (f : Bytes) (i : Row) (l : Lengths i) where
  template_fits : length (ascii "_jsxTemplate(" ++ (template_name f ++ (behind_text i ++ (41 ∷ [])))) ≤ room f i
  template_fits = omega (arith, length-append (template_name f) (behind_text i ++ (41 ∷ [])), length-append (behind_text i) (41 ∷ []), length_template_name f)

  choice_fits : length (first_text i ++ (ascii " ? " ++ (quoted (second_front i) ++ ascii " : \"\""))) ≤ room f i
  choice_fits =
      omega (arith, length-append (first_text i) (ascii " ? " ++ (quoted (second_front i) ++ ascii " : \"\"")), length-append (quoted (second_front i)) (ascii " : \"\""))

  prop_fits : length (prop_name (first_front i) ++ (ascii ": " ++ second_text i)) ≤ room f i
  prop_fits = omega (arith, length-append (prop_name (first_front i)) (ascii ": " ++ second_text i))

  fits : length (field_text t f i) ≤ room f i
  unfolding text_by
  fits =
      let n = room f i in
      let e = length-append (parted_text i) (41 ∷ []) in
      choose_length (eqb t 0x20 || (eqb t 0x40 || eqb t 0x74)) _ _ n (omega arith)
      (choose_length (eqb t 0x41) _ _ n (omega (arith, length_pointed i))
      (choose_length (eqb t 0x70 || eqb t 0x81) _ _ n (omega (arith, length_quoted f))
      (choose_length (is_number t) _ _ n (omega (arith, render_length (number_in t f)))
      (choose_length (eqb t 0x72) _ _ n (pick_length (boolean_in f) (ascii "true") (ascii "false") n (omega arith) (omega arith))
      (choose_length (eqb t 0x73) _ _ n (omega arith)
      (choose_length (is_minus t) _ _ n (omega (arith, render_length (number_in t f)))
      (choose_length (eqb t 0x76) _ _ n (omega (arith, length-append (parted_text i) (93 ∷ [])))
      (choose_length (eqb t 0x53 || eqb t 0x77) _ _ n (omega arith)
      (choose_length (eqb t 0x79) _ _ n (omega arith)
      (choose_length (eqb t 0x90) _ _ n template_fits
      (choose_length (eqb t 0x91) _ _ n (omega arith)
      (choose_length (eqb t 0x92) _ _ n (omega arith)
      (choose_length (eqb t 0x93) _ _ n choice_fits
      (choose_length (eqb t 0x94) _ _ n (omega arith)
      (choose_length (eqb t 0x95) _ _ n (omega (arith, length-append (parted_text i) (ascii " }")))
      (choose_length (eqb t 0x96) _ _ n prop_fits (omega arith)))))))))))))))))

text_lengths : (r : Row) → Lengths r
unfolding all_text parted_text behind_text first_text second_text
text_lengths end = record { all = omega arith; parted = omega arith; behind = omega arith; first = omega arith; choice = omega (arith, length_quoted []); prop = omega (arith, length_prop_name []) }
text_lengths (loose b) = record { all = omega arith; parted = omega arith; behind = omega arith; first = omega arith; choice = omega (arith, length_quoted []); prop = omega (arith, length_prop_name []) }
text_lengths (field t f i r) =
    let n = length_bytes t f i r in
    let x = fits t f i (text_lengths i) in
    let s = text_lengths r in
    record {
      all = omega (arith, length-append (field_text t f i) (all_text r));
      parted = omega (arith, length-append (field_text t f i) (behind_text r));
      behind = omega (arith, length-append (field_text t f i) (behind_text r));
      first = omega arith;
      choice = omega (arith, length_quoted (first_front r), length_first_front r);
      prop = omega (arith, length_prop_name f);
    }

pub all_length : (r : Row) → length (all_text r) ≤ 16 * length (bytes r)
all_length r = (text_lengths r).all

pub parted_length : (r : Row) → length (parted_text r) ≤ 16 * length (bytes r)
parted_length r = (text_lengths r).parted

pub first_length : (r : Row) → length (first_text r) ≤ 16 * length (bytes r)
first_length r = (text_lengths r).first

pub second_length : (r : Row) → length (second_text r) ≤ 16 * length (bytes r)
unfolding second_text
second_length end = omega arith
second_length (loose b) = omega arith
second_length (field t f i r) = omega (arith, length_bytes t f i r, first_length r)

-- ---- lines

length_helper : (stands later : Bool) (n : Bytes) → length (helper_text stands later n) ≤ 7 + 2 * length n
unfolding helper_text
length_helper true true n = omega (arith, length-append n (ascii " as _" ++ n))
length_helper true false n = omega (arith, length-append n (ascii " as _" ++ n))
length_helper false true n = omega arith
length_helper false false n = omega arith

-- four helpers of 30 letters together
length_helpers : (n : ℕ) → length (helpers_text n) ≤ 88
unfolding helpers_text
length_helpers n =
    let a = helper_text (odd n) false (ascii "jsx") in
    let b = helper_text (odd (n / 2)) (odd n) (ascii "jsxTemplate") in
    let c = helper_text (odd (n / 4)) (odd n || odd (n / 2)) (ascii "jsxAttr") in
    let d = helper_text (odd (n / 8)) (odd n || (odd (n / 2) || odd (n / 4))) (ascii "jsxEscape") in
    omega
    (arith, length-append a (b ++ (c ++ d)), length-append b (c ++ d), length-append c d, length_helper (odd n) false (ascii "jsx"), length_helper (odd (n / 2)) (odd n) (ascii "jsxTemplate"), length_helper (odd (n / 4)) (odd n || odd (n / 2)) (ascii "jsxAttr"), length_helper (odd (n / 8)) (odd n || (odd (n / 2) || odd (n / 4))) (ascii "jsxEscape"))

pub import_length : (i : Row) → length (import_text i) ≤ 109 + 4 * length (bytes i)
unfolding import_text
import_length i =
    let h = helpers_text (sum_in i) in
    let q = quoted (first_front i) in
    omega
    (arith, length-append h (ascii " } from " ++ (q ++ (59 ∷ 10 ∷ []))), length-append q (59 ∷ 10 ∷ []), length_helpers (sum_in i), length_quoted (first_front i), length_first_front i)

pub templates_length : (r : Row) → length (templates_text r) ≤ 16 * length (bytes r)
unfolding templates_text
templates_length end = omega arith
templates_length (loose b) = omega arith
templates_length (field t f i r) =
    let n = template_name f in
    let p = parted_text i in
    let line = ascii "const " ++ (n ++ (ascii " = [" ++ (p ++ ascii "];"))) in
    omega
    (arith, length-append line (10 ∷ templates_text r), length-append n (ascii " = [" ++ (p ++ ascii "];")), length-append p (ascii "];"), length_template_name f, parted_length i, length_bytes t f i r, templates_length r)

-- what an item prints, by its tag
abbrev line_text : Row → ℕ → Row → Bytes
line_text ts t i =
    choose (eqb t 0x82) (λ _. import_text i) λ _.
    choose (eqb t 0x83) (λ _. templates_text ts) λ _.
    choose (eqb t 0x13) (λ _. 59 ∷ 10 ∷ []) λ _. all_text i ++ (10 ∷ [])

line_length : (ts : Row) (t : ℕ) (i : Row) → length (line_text ts t i) ≤ 109 + 16 * length (bytes ts) + 16 * length (bytes i)
line_length ts t i =
    let n = 109 + 16 * length (bytes ts) + 16 * length (bytes i) in
    choose_length (eqb t 0x82) _ _ n (omega (arith, import_length i))
    (choose_length (eqb t 0x83) _ _ n (omega (arith, templates_length ts))
    (choose_length (eqb t 0x13) _ _ n (omega arith) (omega (arith, length-append (all_text i) (10 ∷ []), all_length i))))

-- each item may be an 83, which prints all the templates
pub page_length : (ts r : Row) → length (page_text ts r) ≤ (64 + 16 * length (bytes ts)) * length (bytes r)
unfolding page_text
page_length ts end = omega arith
page_length ts (loose b) = omega arith
page_length ts (field t f i r) = rw length_bytes (omega (arith, length-append (line_text ts t i) (page_text ts r), line_length ts t i, page_length ts r))

-- outputs of up to 32 MiB each print a text as short as `print_page` requires
pub page_text_low : (t p : Bytes) → AllBytes t → AllBytes p → length t ≤ 2 ^ 25 → length p ≤ 2 ^ 25 → length (page_text (read t) (read p)) < 2 ^ 63
page_text_low t p a b h k =
    let g : 64 + 16 * length t ≤ 64 + 16 * 2 ^ 25 = omega arith in
    let m : (64 + 16 * length t) * length p ≤ (64 + 16 * 2 ^ 25) * 2 ^ 25 = mul-le-mul g k in
    let l : length (page_text (read t) (read p)) ≤ (64 + 16 * length t) * length p = rw (bytes_read t a, bytes_read p b) at (page_length (read t) (read p)) in
    omega arith
