-- The grammar of a page out (01, Form and call; 02, A7), with the refusals 3 to 7 front to back: of a field its header, then its body. The number's
-- width is a parameter. A missing field is noticed at the end of the body that lacks it. Assumes nothing: these are definitions.
use Rattle.std.specs.Prelude.{ℕ, Bool, true, false, ◌&&◌, ◌||◌, [], ◌∷◌, eqb, leb, length}
use Rattle.field.specs.Bytes.{Bytes, pick}
use Rattle.field.specs.Row.{Row, end, loose, field, Next, nothing, no_field, next, next_of, read}
use Rattle.page.specs.Number.{is_number, is_minus}
use Rattle.page.specs.Tree.{choose}
use Rattle.page.specs.Check.{check_text, check_number, check_boolean, check_empty, check_name_by}
use Rattle.refusal.specs.Refusal.{Verdict, Fine, Refused, after, unless}
use Rattle.refusal.specs.declared.Refusal.TheVariants as R
use Rattle.outs.specs.Held.{nests, read_out}
use Rattle.outs.specs.declared.Expect.{Expect}
use Rattle.outs.specs.declared.Expect.TheVariants as E

-- ---- which fields may come

-- 01's expressions, with the calls 90 to 94 in place of 30 and 31
abbrev pub expression : ℕ → Bool
expression t = (leb 0x70 t && leb t 0x76) || (leb 0x79 t && leb t 0x7b) || (leb 0x90 t && leb t 0x94)

-- a statement or an export of a declaration, before the first of which the templates go; and the other items
abbrev pub statement : ℕ → Bool
statement t = eqb t 0x10 || eqb t 0x12

abbrev pub declaration : ℕ → Bool
declaration t = eqb t 0x11 || eqb t 0x13

abbrev pub allowed : Expect → ℕ → Bool
allowed E.Whole t = eqb t 0x82 || eqb t 0x83 || (leb 0x10 t && leb t 0x13)
allowed E.Items t = eqb t 0x83 || (leb 0x10 t && leb t 0x13)
allowed E.Placed t = leb 0x10 t && leb t 0x13
allowed E.Declarations t = eqb t 0x83 || (leb 0x10 t && leb t 0x13)
allowed E.Statement t = statement t
allowed E.Rest t = leb 0x10 t && leb t 0x13
allowed E.NoStatement t = declaration t
allowed E.Pieces t = eqb t 0x20 || expression t
allowed E.Exprs t = expression t
allowed E.Elements t = expression t || eqb t 0x77 || eqb t 0x78
allowed E.One t = expression t
allowed E.Nothing t = false
allowed E.NameThenOne t = eqb t 0x81
allowed E.OneThenName t = expression t
allowed E.JustName t = eqb t 0x81
allowed E.Callee t = eqb t 0x81 || eqb t 0x40 || eqb t 0x41
allowed E.Props t = eqb t 0x73 || eqb t 0x95
allowed E.Key t = expression t
allowed E.Properties t = eqb t 0x96 || eqb t 0x53

-- the templates go before the first statement, or before all items where there is none
abbrev pub among_items : Expect → ℕ → Expect
among_items c t = pick (statement t) E.Rest c

abbrev pub left : Expect → ℕ → Expect
left E.Whole t = pick (eqb t 0x82) E.Items (pick (eqb t 0x83) E.Placed (among_items E.Declarations t))
left E.Items t = pick (eqb t 0x83) E.Placed (among_items E.Declarations t)
left E.Placed t = among_items E.NoStatement t
left E.Declarations t = pick (eqb t 0x83) E.Statement (among_items E.Declarations t)
left E.Statement t = E.Rest
left E.Rest t = E.Rest
left E.NoStatement t = E.NoStatement
left E.Pieces t = E.Pieces
left E.Exprs t = E.Exprs
left E.Elements t = E.Elements
left E.One t = E.Nothing
left E.Nothing t = E.Nothing
left E.NameThenOne t = E.One
left E.OneThenName t = E.JustName
left E.JustName t = E.Nothing
left E.Callee t = E.Props
left E.Props t = E.Key
left E.Key t = E.Nothing
left E.Properties t = E.Properties

-- at the end of a body nothing may be missing
abbrev pub closed : Expect → Verdict
closed E.Whole = Fine
closed E.Items = Fine
closed E.Placed = Fine
closed E.Declarations = Fine
closed E.Statement = Refused R.Misplaced
closed E.Rest = Fine
closed E.NoStatement = Fine
closed E.Pieces = Fine
closed E.Exprs = Fine
closed E.Elements = Fine
closed E.One = Refused R.Misplaced
closed E.Nothing = Fine
closed E.NameThenOne = Refused R.Misplaced
closed E.OneThenName = Refused R.Misplaced
closed E.JustName = Refused R.Misplaced
closed E.Callee = Refused R.Misplaced
closed E.Props = Refused R.Misplaced
closed E.Key = Fine
closed E.Properties = Fine

-- ---- bodies

-- what the fields of a body are, by its tag
unfoldable pub within : ℕ → Expect
within t =
    pick ((leb 0x10 t && leb t 0x12) || eqb t 0x79) E.Pieces
    (pick (eqb t 0x90) E.Exprs
    (pick (eqb t 0x91 || eqb t 0x96) E.NameThenOne
    (pick (eqb t 0x93) E.OneThenName
    (pick (eqb t 0x94) E.Callee
    (pick (eqb t 0x95) E.Properties
    (pick (eqb t 0x76) E.Elements E.One))))))

-- a call of a template begins with its number, all of it
abbrev pub front_right : ℕ → ℕ → Bytes → Bool
front_right width t f = pick (eqb t 0x90) (eqb (length f) width) true

-- 82: behind the 81 one byte, a sum of helpers
unfoldable pub check_sum : Bytes → Verdict
check_sum [] = Refused R.Misplaced
check_sum (c ∷ []) = unless (leb 1 c && leb c 15) R.Misplaced
check_sum (c ∷ d ∷ cs) = Refused R.Misplaced

unfoldable pub check_import : Next → Verdict
check_import nothing = Refused R.Misplaced
check_import no_field = Refused R.Truncated
check_import (next t w r) = after (unless (eqb t 0x81) R.Misplaced) λ _. after (check_text w) λ _. check_sum r

-- a field that holds no field of the page out
unfoldable pub check_leaf : ℕ → Bytes → Verdict
check_leaf t f =
    choose (eqb t 0x20 || eqb t 0x70 || eqb t 0x74 || eqb t 0x81) (λ _. check_text f) λ _.
    choose (is_number t || is_minus t) (λ _. check_number t f) λ _.
    choose (eqb t 0x72) (λ _. check_boolean f) λ _.
    choose (eqb t 0x40 || eqb t 0x41) (λ _. check_name_by t 1 f (read f)) λ _.
    choose (eqb t 0x82) (λ _. check_import (next_of f)) λ _.
    check_empty f

-- ---- the row

unfoldable pub good : ℕ → Expect → Row → Verdict
good width c end = closed c
good width c (loose b) = Refused R.Truncated
good width c (field t f i r) =
    after (unless (allowed c t) R.Misplaced) λ _.
    after (choose (nests t) (λ _. after (unless (front_right width t f) R.Misplaced) λ _. good width (within t) i) λ _. check_leaf t f) λ _.
    good width (left c t) r

-- a page out whose numbers have so many bytes
unfoldable pub check_page_out : ℕ → Bytes → Verdict
check_page_out width b = good width E.Whole (read_out width b)
