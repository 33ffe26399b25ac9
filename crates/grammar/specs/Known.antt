-- What braces hold where it is no tag, by the text alone: numbers, strings, `true`, `false`, `null`, and the rest; and the five entities.
-- Main definitions: `known_of`, `entity_of`. Assumes nothing: these are definitions.
use Rattle.std.specs.Prelude.{ℕ, ◌+◌, ◌*◌, ◌-◌, Bool, true, false, ◌&&◌, ◌||◌, not, [], ◌∷◌, ◌++◌, leb, eqb, length, Option, None, Some}
use Rattle.field.specs.Bytes.{Bytes, ascii, same}
use Rattle.grammar.specs.Signs.{choose, each, some_byte, digit, space, quote}

pub data Known : Type 0 where
  whole : (value : ℕ) → Known  -- 71
  minus_whole : (value : ℕ) → Known  -- 75
  decimal : (digits places : ℕ) → Known  -- 7A
  minus_decimal : (digits places : ℕ) → Known  -- 7B
  quoted : Bytes → Known  -- 70
  boolean : Bool → Known  -- 72
  null : Known  -- 73
  other : Bytes → Known  -- 79 of one 20

-- ---- white space
unfoldable pub trimmed_front : Bytes → Bytes
trimmed_front [] = []
trimmed_front (c ∷ w) = choose (space c) (trimmed_front w) (c ∷ w)

unfoldable pub kept : ℕ → Bytes → Bytes
kept c [] = choose (space c) [] (c ∷ [])
kept c (d ∷ w) = c ∷ (d ∷ w)

unfoldable pub trimmed_end : Bytes → Bytes
trimmed_end [] = []
trimmed_end (c ∷ w) = kept c (trimmed_end w)

-- ---- A3: 'whole numbers and decimals (digits on both sides of the point, places as written), neither with needless zeros in front'

unfoldable pub value_from : ℕ → Bytes → ℕ
value_from n [] = n
value_from n (c ∷ w) = value_from (n * 10 + (c - 48)) w

-- digits without needless zeros in front
unfoldable pub is_whole : Bytes → Bool
is_whole [] = false
is_whole (c ∷ []) = digit c
is_whole (c ∷ d ∷ w) = not (eqb c 48) && each digit (c ∷ d ∷ w)

unfoldable pub before_point : Bytes → Bytes
before_point [] = []
before_point (c ∷ w) = choose (eqb c 46) [] (c ∷ before_point w)

-- what follows the first point
unfoldable pub after_point : Bytes → Bytes
after_point [] = []
after_point (c ∷ w) = choose (eqb c 46) w (after_point w)

unfoldable pub is_empty_text : Bytes → Bool
is_empty_text [] = true
is_empty_text (c ∷ w) = false

unfoldable pub is_decimal : Bytes → Bool
is_decimal w = is_whole (before_point w) && not (is_empty_text (after_point w)) && each digit (after_point w)

unfoldable pub number_of : Bytes → (plain : ℕ → Known) → (pointed : ℕ → ℕ → Known) → Option Known
number_of w plain pointed =
    choose (is_whole w) (Some (plain (value_from 0 w)))
    (choose (is_decimal w) (Some (pointed (value_from 0 (before_point w ++ after_point w)) (length (after_point w)))) None)

-- A3: 'either after a minus and any white space'. What is behind these, where they stand
unfoldable pub unsigned : Bytes → Bytes
unsigned [] = []
unsigned (c ∷ w) = choose (eqb c 45) (trimmed_front w) (c ∷ w)

unfoldable pub has_minus : Bytes → Bool
has_minus [] = false
has_minus (c ∷ w) = eqb c 45

-- ---- A3: 'quoted strings without backslash or line end': the quote, bytes that are not it, the quote. (Source text has the other two nowhere
-- in quotes.)

unfoldable pub string_from : ℕ → Bytes → Bytes → Option Known
string_from q v [] = None
string_from q v (c ∷ []) = choose (eqb c q) (Some (quoted v)) None
string_from q v (c ∷ d ∷ w) = choose (eqb c q) None (string_from q (v ++ (c ∷ [])) (d ∷ w))

unfoldable pub string_of : Bytes → Option Known
string_of [] = None
string_of (c ∷ w) = choose (quote c) (string_from c [] w) None

-- ---- the rest

unfoldable pub digit_or_point : Bytes → Bool
digit_or_point [] = false
digit_or_point (c ∷ w) = digit c || eqb c 46

-- an ASCII letter, a point or an underscore
unfoldable pub of_a_number : ℕ → Bool
of_a_number c = (leb 65 c && leb c 90) || (leb 97 c && leb c 122) || eqb c 46 || eqb c 95

-- backquote, backslash, slash, `<`
unfoldable pub not_read : ℕ → Bool
not_read c = eqb c 96 || eqb c 92 || eqb c 47 || eqb c 60

-- A3: 'text starting with a digit or point, also after a minus and white space, is not read as 79 if it holds' one of these
unfoldable pub rest_of : Bytes → Option Known
rest_of w = choose (some_byte not_read w || (digit_or_point (unsigned w) && some_byte of_a_number w)) None (Some (other w))

unfoldable pub or_else : Option Known → Option Known → Option Known
or_else None y = y
or_else (Some k) y = Some k

unfoldable pub known_trimmed : Bytes → Option Known
known_trimmed w =
    choose (same w (ascii "true")) (Some (boolean true))
    (choose (same w (ascii "false")) (Some (boolean false))
    (choose (same w (ascii "null")) (Some null)
    (or_else (string_of w)
    (or_else (choose (has_minus w) (number_of (unsigned w) minus_whole minus_decimal) (number_of w whole decimal))
    (rest_of w)))))

-- white space in front was dropped by the grammar
unfoldable pub known_of : Bytes → Option Known
known_of w = known_trimmed (trimmed_end w)

-- ---- entities, between `&` and `;`
unfoldable pub entity_of : Bytes → Option ℕ
entity_of e =
    choose (same e (ascii "amp")) (Some 38)
    (choose (same e (ascii "lt")) (Some 60)
    (choose (same e (ascii "gt")) (Some 62)
    (choose (same e (ascii "quot")) (Some 34)
    (choose (same e (ascii "#39")) (Some 39) None))))
