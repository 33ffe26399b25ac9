-- The refusals 3 to 8 of 01, front to back: of a field its header (torn, misplaced), its depth, then its body; the number is the depth at
-- which the fields of the row stand. Assumes nothing: these are definitions.
use Rattle.std.specs.Prelude.{ℕ, zero, suc, Bool, true, false, ◌&&◌, ◌||◌, not, [], ◌∷◌, leb, eqb, length}
use Rattle.field.specs.Bytes.{Bytes}
use Rattle.field.specs.Row.{Row, end, loose, field}
use Rattle.utf8.specs.Utf8.{utf8}
use Rattle.page.specs.Number.{is_number, is_minus, number_in, number_length, in_range}
use Rattle.refusal.specs.Refusal.{Verdict, Fine, Refused, after, unless}
use Rattle.page.specs.Tree.{choose}
use Rattle.refusal.specs.declared.Refusal.TheVariants as R

-- a header: misplaced, then too deep. (A torn one is a loose end of the row.)
unfoldable pub check_header : Bool → ℕ → Verdict
check_header ok depth = after (unless ok R.Misplaced) λ _. unless (leb depth 48) R.TooDeep

-- no field may follow
unfoldable pub check_end : Row → Verdict
check_end end = Fine
check_end (loose b) = Refused R.Truncated
check_end (field t f i r) = Refused R.Misplaced

-- ---- leaves

unfoldable pub check_text : Bytes → Verdict
check_text b = unless (utf8 b) R.NotUtf8

unfoldable pub check_empty : Bytes → Verdict
check_empty b = unless (eqb (length b) 0) R.Misplaced

unfoldable pub check_number : ℕ → Bytes → Verdict
check_number t b = after (unless (eqb (length b) (number_length t)) R.Misplaced) λ _. unless (in_range (number_in t b)) R.NumberTooLarge

unfoldable pub check_boolean : Bytes → Verdict
check_boolean [] = Refused R.Misplaced
check_boolean (c ∷ []) = unless (leb c 1) R.Misplaced
check_boolean (c ∷ d ∷ cs) = Refused R.Misplaced

-- ---- names

-- 01, 40: a letter, `_` or `$`
abbrev pub name_start : ℕ → Bool
name_start c = (leb 65 c && leb c 90) || (leb 97 c && leb c 122) || eqb c 95 || eqb c 36

-- then also digits and `-`
abbrev pub name_part : ℕ → Bool
name_part c = name_start c || (leb 48 c && leb c 57) || eqb c 45

unfoldable pub name_parts : Bytes → Bool
name_parts [] = true
name_parts (c ∷ cs) = name_part c && name_parts cs

unfoldable pub no_hyphen : Bytes → Bool
no_hyphen [] = true
no_hyphen (c ∷ cs) = not (eqb c 45) && no_hyphen cs

-- 1 to 128 bytes
unfoldable pub is_name : Bytes → Bool
is_name [] = false
is_name (c ∷ cs) = leb (length (c ∷ cs)) 128 && (name_start c && name_parts cs)

unfoldable pub check_name : Bytes → Verdict
check_name b = unless (is_name b) R.BadName

-- the 40s of a 41, at most so many, without hyphens
unfoldable pub check_members : ℕ → ℕ → Row → Verdict
check_members k depth end = Fine
check_members k depth (loose b) = Refused R.Truncated
check_members zero depth (field t f i r) = Refused R.Misplaced
check_members (suc k) depth (field t f i r) =
    after (check_header (eqb t 0x40) depth) λ _.
    after (unless (is_name f && no_hyphen f) R.BadName) λ _. check_members k depth r

-- so many fields or more
unfoldable pub at_least : ℕ → Row → Bool
at_least zero r = true
at_least (suc k) end = false
at_least (suc k) (loose b) = false
at_least (suc k) (field t f i r) = at_least k r

-- a 40 that must stand, and what follows it
unfoldable pub check_ident : ℕ → Row → (Row → Verdict) → Verdict
check_ident depth end v = Refused R.Misplaced
check_ident depth (loose b) v = Refused R.Truncated
check_ident depth (field t f i r) v = after (check_header (eqb t 0x40) depth) λ _. after (check_name f) λ _. v r

-- a name's body by its tag: 40; 41, two to eight; 42, two
unfoldable pub check_name_by : ℕ → ℕ → Bytes → Row → Verdict
check_name_by t depth f i =
    choose (eqb t 0x41) (λ _. after (check_members 8 depth i) λ _. unless (at_least 2 i) R.Misplaced) λ _.
    choose (eqb t 0x42) (λ _. check_ident depth i λ r. check_ident depth r check_end) λ _.
    check_name f

-- ---- which tags may stand where

abbrev pub is_name_tag : ℕ → Bool
is_name_tag t = leb 0x40 t && leb t 0x42

abbrev pub is_tag : ℕ → Bool
is_tag t = eqb t 0x30 || eqb t 0x31

abbrev pub is_expr : ℕ → Bool
is_expr t = (leb 0x70 t && leb t 0x76) || (leb 0x79 t && leb t 0x7b) || is_tag t

abbrev pub is_child : ℕ → Bool
is_child t = eqb t 0x60 || eqb t 0x52 || is_tag t || eqb t 0x61

abbrev pub is_attribute : ℕ → Bool
is_attribute t = eqb t 0x50 || eqb t 0x53

-- ---- bodies by their tags; the checks of what they hold are given, and taken only where the tag asks for them

unfoldable pub check_expr_by : ℕ → Bytes → (Unit {0} → Verdict) → (Unit {0} → Verdict) → (Unit {0} → Verdict) → (Unit {0} → Verdict) → Verdict
check_expr_by t f is ps el fr =
    choose (eqb t 0x70 || eqb t 0x74) (λ _. check_text f) λ _.
    choose (is_number t || is_minus t) (λ _. check_number t f) λ _.
    choose (eqb t 0x72) (λ _. check_boolean f) λ _.
    choose (eqb t 0x73) (λ _. check_empty f) λ _.
    choose (eqb t 0x76) is λ _.
    choose (eqb t 0x79) ps λ _.
    choose (eqb t 0x30) el fr

unfoldable pub check_child_by : ℕ → Bytes → (Unit {0} → Verdict) → (Unit {0} → Verdict) → (Unit {0} → Verdict) → (Unit {0} → Verdict) → Verdict
check_child_by t f co ex el fr =
    choose (eqb t 0x60) (λ _. check_text f) λ _.
    choose (eqb t 0x52) co λ _.
    choose (eqb t 0x61) ex λ _.
    choose (eqb t 0x30) el fr

unfoldable mutual
  -- a 30: a name, attributes, children
  pub check_element : ℕ → Row → Verdict
  check_element depth end = Refused R.Misplaced
  check_element depth (loose b) = Refused R.Truncated
  check_element depth (field t f i r) =
      after (check_header (is_name_tag t) depth) λ _.
      after (check_name_by t (suc depth) f i) λ _. check_attributes depth r

  -- attributes, then children
  pub check_attributes : ℕ → Row → Verdict
  check_attributes depth end = Fine
  check_attributes depth (loose b) = Refused R.Truncated
  check_attributes depth (field t f i r) =
      after (check_header (is_attribute t || is_child t) depth) λ _.
      choose (eqb t 0x50) (λ _. after (check_attribute (suc depth) i) λ _. check_attributes depth r) λ _.
      choose (eqb t 0x53) (λ _. after (check_expr (suc depth) i) λ _. check_attributes depth r) λ _.
      after (check_child_by t f (λ _. check_container (suc depth) i) (λ _. check_expr (suc depth) i) (λ _. check_element (suc depth) i) (λ _. check_children (suc depth) i)) λ _.
      check_children depth r

  -- a 50: a name, then nothing or a value
  pub check_attribute : ℕ → Row → Verdict
  check_attribute depth end = Refused R.Misplaced
  check_attribute depth (loose b) = Refused R.Truncated
  check_attribute depth (field t f i r) =
      after (check_header (eqb t 0x40 || eqb t 0x42) depth) λ _.
      after (check_name_by t (suc depth) f i) λ _. check_value depth r

  pub check_value : ℕ → Row → Verdict
  check_value depth end = Fine
  check_value depth (loose b) = Refused R.Truncated
  check_value depth (field t f i r) =
      after (check_header (eqb t 0x51 || eqb t 0x52 || is_tag t) depth) λ _.
      after
      (choose (eqb t 0x51) (λ _. check_text f) λ _.
      choose (eqb t 0x52) (λ _. check_container (suc depth) i) λ _.
      choose (eqb t 0x30) (λ _. check_element (suc depth) i) λ _. check_children (suc depth) i) λ _.
      check_end r

  -- the fields of a 31, and a 30's behind its first child
  pub check_children : ℕ → Row → Verdict
  check_children depth end = Fine
  check_children depth (loose b) = Refused R.Truncated
  check_children depth (field t f i r) =
      after (check_header (is_child t) depth) λ _.
      after (check_child_by t f (λ _. check_container (suc depth) i) (λ _. check_expr (suc depth) i) (λ _. check_element (suc depth) i) (λ _. check_children (suc depth) i)) λ _.
      check_children depth r

  -- a 52: one expression or none
  pub check_container : ℕ → Row → Verdict
  check_container depth end = Fine
  check_container depth (loose b) = Refused R.Truncated
  check_container depth (field t f i r) =
      after (check_header (is_expr t) depth) λ _.
      after (check_expr_by t f (λ _. check_items (suc depth) i) (λ _. check_pieces (suc depth) i) (λ _. check_element (suc depth) i) (λ _. check_children (suc depth) i)) λ _.
      check_end r

  -- one expression
  pub check_expr : ℕ → Row → Verdict
  check_expr depth end = Refused R.Misplaced
  check_expr depth (loose b) = Refused R.Truncated
  check_expr depth (field t f i r) =
      after (check_header (is_expr t) depth) λ _.
      after (check_expr_by t f (λ _. check_items (suc depth) i) (λ _. check_pieces (suc depth) i) (λ _. check_element (suc depth) i) (λ _. check_children (suc depth) i)) λ _.
      check_end r

  -- a 76: expressions, spreads, holes
  pub check_items : ℕ → Row → Verdict
  check_items depth end = Fine
  check_items depth (loose b) = Refused R.Truncated
  check_items depth (field t f i r) =
      after (check_header (is_expr t || eqb t 0x77 || eqb t 0x78) depth) λ _.
      after
      (choose (eqb t 0x77) (λ _. check_expr (suc depth) i) λ _.
      choose (eqb t 0x78) (λ _. check_empty f) λ _.
      check_expr_by t f (λ _. check_items (suc depth) i) (λ _. check_pieces (suc depth) i) (λ _. check_element (suc depth) i) (λ _. check_children (suc depth) i)) λ _.
      check_items depth r

  -- a 79 and an item: source text and tags
  pub check_pieces : ℕ → Row → Verdict
  check_pieces depth end = Fine
  check_pieces depth (loose b) = Refused R.Truncated
  check_pieces depth (field t f i r) =
      after (check_header (eqb t 0x20 || is_tag t) depth) λ _.
      after
      (choose (eqb t 0x20) (λ _. check_text f) λ _.
      choose (eqb t 0x30) (λ _. check_element (suc depth) i) λ _. check_children (suc depth) i) λ _.
      check_pieces depth r

-- ---- the page

unfoldable pub check_module_items : Row → Verdict
check_module_items end = Fine
check_module_items (loose b) = Refused R.Truncated
check_module_items (field t f i r) =
    after (check_header (leb 0x10 t && leb t 0x13) 2) λ _.
    after (choose (eqb t 0x13) (λ _. check_empty f) λ _. check_pieces 3 i) λ _.
    check_module_items r

-- bytes after 01 are torn
unfoldable pub check_nothing_after : Row → Verdict
check_nothing_after end = Fine
check_nothing_after (loose b) = Refused R.Truncated
check_nothing_after (field t f i r) = Refused R.Truncated

-- an empty page is torn too
unfoldable pub check_page : Row → Verdict
check_page end = Refused R.Truncated
check_page (loose b) = Refused R.Truncated
check_page (field t f i r) = after (check_header (eqb t 0x01) 1) λ _. after (check_module_items i) λ _. check_nothing_after r

-- ---- options

-- a series of 20s
unfoldable pub check_texts : Row → Verdict
check_texts end = Fine
check_texts (loose b) = Refused R.Truncated
check_texts (field t f i r) = after (check_header (eqb t 0x20) 2) λ _. after (check_text f) λ _. check_texts r

-- 04: one byte or more
unfoldable pub check_source : Bytes → Verdict
check_source b = after (unless (leb 1 (length b)) R.Misplaced) λ _. check_text b

-- an option's body by its tag: 04 is the source, 05 (02, A12) is empty, 02 and 03 are lists
abbrev pub check_option_by : ℕ → Bytes → Row → Verdict
check_option_by t f i = choose (eqb t 0x04) (λ _. check_source f) λ _. choose (eqb t 0x05) (λ _. check_empty f) λ _. check_texts i

-- each at most once and in order: `from` is the least tag that may still come
unfoldable pub check_options_from : ℕ → Row → Verdict
check_options_from from end = Fine
check_options_from from (loose b) = Refused R.Truncated
check_options_from from (field t f i r) =
    after (check_header (leb from t && leb t 0x05) 1) λ _.
    after (check_option_by t f i) λ _.
    check_options_from (suc t) r

unfoldable pub check_options : Row → Verdict
check_options r = check_options_from 2 r
