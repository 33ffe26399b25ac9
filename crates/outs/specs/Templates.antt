-- The grammar of templates out (02, A6 and A7): a row of 80s, or of 84s, with the refusals 3, 4 and 6 front to back. What stands before the strings
-- is looked at before them; a string too many is refused at its header. Assumes nothing: these are definitions.
use Rattle.std.specs.Prelude.{ℕ, zero, suc, ◌+◌, Bool, true, ◌&&◌, [], ◌∷◌, eqb, leb, length, take, drop}
use Rattle.field.specs.Bytes.{Bytes}
use Rattle.field.specs.Number.{number_of}
use Rattle.field.specs.Row.{Row, end, loose, field, read}
use Rattle.page.specs.Check.{check_text}
use Rattle.refusal.specs.Refusal.{Verdict, Fine, Refused, after, unless}
use Rattle.refusal.specs.declared.Refusal.TheVariants as R
use Rattle.outs.specs.declared.Kind.{Kind}
use Rattle.outs.specs.declared.Kind.TheVariants.{Old, New}

-- the tag of a record: 80 holds a number of two bytes; 84 one of four, a count and kinds
abbrev pub record_tag : Kind → ℕ
record_tag Old = 0x80
record_tag New = 0x84

-- the count in the front of an 84, and its kinds, each 1 or 2
abbrev pub count_of : Bytes → ℕ
count_of f = number_of (take 2 (drop 4 f))

unfoldable pub all_kinds : Bytes → Bool
all_kinds [] = true
all_kinds (k ∷ ks) = (leb 1 k && leb k 2) && all_kinds ks

unfoldable pub front_of_record : Kind → Bytes → Bool
front_of_record Old f = eqb (length f) 2
front_of_record New f = leb 6 (length f) && (eqb (length f) (6 + count_of f) && all_kinds (drop 6 f))

-- so many strings, no more and no fewer
unfoldable pub check_strings : ℕ → Row → Verdict
check_strings k (loose b) = Refused R.Truncated
check_strings zero end = Fine
check_strings zero (field t f i r) = Refused R.Misplaced
check_strings (suc k) end = Refused R.Misplaced
check_strings (suc k) (field t f i r) = after (unless (eqb t 0x81) R.Misplaced) λ _. after (check_text f) λ _. check_strings k r

-- any number of strings
unfoldable pub check_any_strings : Row → Verdict
check_any_strings end = Fine
check_any_strings (loose b) = Refused R.Truncated
check_any_strings (field t f i r) = after (unless (eqb t 0x81) R.Misplaced) λ _. after (check_text f) λ _. check_any_strings r

-- one at the least
unfoldable pub check_some_strings : Row → Verdict
check_some_strings end = Refused R.Misplaced
check_some_strings (loose b) = Refused R.Truncated
check_some_strings (field t f i r) = check_any_strings (field t f i r)

unfoldable pub check_strings_of : Kind → Bytes → Row → Verdict
check_strings_of Old f i = check_some_strings i
check_strings_of New f i = check_strings (suc (count_of f)) i

unfoldable pub check_records : Kind → Row → Verdict
check_records k end = Fine
check_records k (loose b) = Refused R.Truncated
check_records k (field t f i r) =
    after (unless (eqb t (record_tag k)) R.Misplaced) λ _.
    after (unless (front_of_record k f) R.Misplaced) λ _.
    after (check_strings_of k f i) λ _. check_records k r

unfoldable pub check_templates : Kind → Bytes → Verdict
check_templates k b = check_records k (read b)
