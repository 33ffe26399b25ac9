-- The check of an order as the code makes it: of one filling by its tag and the bytes of its body. The proofs hold it to the check of a row in
-- `Order`. Nothing here needs belief. Assumes nothing: these are definitions.
use Rattle.std.specs.Prelude.{ℕ, suc, eqb, leb, length, drop}
use Rattle.field.specs.Bytes.{Bytes}
use Rattle.page.specs.Tree.{choose}
use Rattle.page.specs.Check.{check_header, check_text}
use Rattle.refusal.specs.Refusal.{Verdict, after, unless}
use Rattle.refusal.specs.declared.Refusal.TheVariants as R
use Rattle.fill.specs.Order.{read_order, is_filling, check_fillings}

-- the body of an 85, whose fillings stand at a depth
unfoldable pub check_body : ℕ → Bytes → Verdict
check_body d w = after (unless (leb 4 (length w)) R.Misplaced) λ _. check_fillings d (read_order (drop 4 w))

unfoldable pub check_filling : ℕ → ℕ → Bytes → Verdict
check_filling d t w = after (check_header (is_filling t) d) λ _. choose (eqb t 0x85) (λ _. check_body (suc d) w) λ _. check_text w
