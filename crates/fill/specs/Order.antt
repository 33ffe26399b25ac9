-- The grammar of an order (02, A8): an 85 with the number of a record and a filling for each gap: an 86 (attribute text), an 87 (plain text) or an
-- 85 again. The refusals 3, 4, 6 and 8, front to back. Assumes nothing: these are definitions.
use Rattle.std.specs.Prelude.{ℕ, suc, Bool, ◌&&◌, List, [], ◌∷◌, ◌++◌, eqb, leb, length}
use Rattle.field.specs.Bytes.{Bytes, pick}
use Rattle.field.specs.Number.{number_of}
use Rattle.field.specs.Row.{Row, end, loose, field, Inside, only_bytes, fields_after, read_by}
use Rattle.page.specs.Tree.{choose}
use Rattle.page.specs.Check.{check_header, check_text, check_nothing_after}
use Rattle.refusal.specs.Refusal.{Verdict, Fine, Refused, after, unless}
use Rattle.refusal.specs.declared.Refusal.TheVariants as R

-- an 85 holds a number of four bytes, and then fillings; texts hold no field
unfoldable pub held_in_order : ℕ → Inside
held_in_order t = pick (eqb t 0x85) (fields_after 4) only_bytes

unfoldable pub read_order : Bytes → Row
read_order b = read_by held_in_order b

abbrev pub is_filling : ℕ → Bool
is_filling t = leb 0x85 t && leb t 0x87

-- fillings at a depth: of each its header, its depth, then its body
unfoldable pub check_fillings : ℕ → Row → Verdict
check_fillings d end = Fine
check_fillings d (loose b) = Refused R.Truncated
check_fillings d (field t f i r) =
    after (check_header (is_filling t) d) λ _.
    after (choose (eqb t 0x85) (λ _. after (unless (leb 4 (length f)) R.Misplaced) λ _. check_fillings (suc d) i) λ _. check_text f) λ _.
    check_fillings d r

-- the outermost 85 has depth 1, and stands alone
unfoldable pub check_order : Row → Verdict
check_order end = Refused R.Truncated
check_order (loose b) = Refused R.Truncated
check_order (field t f i r) =
    after (check_header (eqb t 0x85) 1) λ _.
    after (unless (leb 4 (length f)) R.Misplaced) λ _.
    after (check_fillings 2 i) λ _. check_nothing_after r

-- the numbers of all 85s, front to back
unfoldable pub asked : Row → List ℕ
asked end = []
asked (loose b) = []
asked (field t f i r) = choose (eqb t 0x85) (λ _. number_of f ∷ (asked i ++ asked r)) λ _. asked r
