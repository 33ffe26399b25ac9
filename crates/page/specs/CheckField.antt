-- The checks as the code makes them: of one field by its tag and the bytes of its body, and of what stands where no field does. The proofs
-- hold them to the checks of a row in `Check`. Assumes nothing: these are definitions.
use Rattle.std.specs.Prelude.{ℕ, suc, Bool, true, false, ◌&&◌, leb, eqb}
use Rattle.field.specs.Bytes.{Bytes}
use Rattle.field.specs.Row.{Row, end, loose, field, read}
use Rattle.refusal.specs.Refusal.{Verdict, Fine, Refused, after, unless}
use Rattle.page.specs.Tree.{choose}
use Rattle.page.specs.Check.{check_header, check_end, check_empty, check_members, at_least, check_ident, check_name_by, check_option_by, is_name_tag, is_tag, is_expr, check_expr_by, check_element, check_attributes, check_children, check_items, check_pieces}
use Rattle.refusal.specs.declared.Refusal.TheVariants as R

-- a field must stand here: its lack is misplaced, bytes that are none are torn
unfoldable pub check_missing : Row → Verdict
check_missing end = Refused R.Misplaced
check_missing (loose b) = Refused R.Truncated
check_missing (field t f i r) = Refused R.Truncated

-- ---- names

-- members, at most k and at least m of them
unfoldable pub check_counted : ℕ → ℕ → ℕ → Row → Verdict
check_counted k m depth r = after (check_members k depth r) λ _. unless (at_least m r) R.Misplaced

-- a 40 that must stand, and nothing of what follows it
unfoldable pub check_first : ℕ → Row → Verdict
check_first depth r = check_ident depth r λ _. Fine

unfoldable pub check_namespaced : ℕ → Row → Verdict
check_namespaced depth i = check_ident depth i λ r. check_ident depth r check_end

-- the name in front of an element's fields, and nothing of what follows it
unfoldable pub check_element_name : ℕ → Row → Verdict
check_element_name depth end = Refused R.Misplaced
check_element_name depth (loose b) = Refused R.Truncated
check_element_name depth (field t f i r) = after (check_header (is_name_tag t) depth) λ _. check_name_by t (suc depth) f i

-- what follows it: attributes may still come, or children alone
unfoldable pub check_nodes : Bool → ℕ → Row → Verdict
check_nodes true depth r = check_attributes depth r
check_nodes false depth r = check_children depth r

-- ---- one field, from its header to its body's end

unfoldable pub check_tag_field : ℕ → ℕ → Bytes → Verdict
check_tag_field depth t w =
    after (check_header (is_tag t) depth) λ _.
    choose (eqb t 0x30) (λ _. check_element (suc depth) (read w)) λ _. check_children (suc depth) (read w)

unfoldable pub check_expr_field : ℕ → ℕ → Bytes → Verdict
check_expr_field depth t w =
    after (check_header (is_expr t) depth) λ _.
    check_expr_by t w (λ _. check_items (suc depth) (read w)) (λ _. check_pieces (suc depth) (read w)) (λ _. check_element (suc depth) (read w)) (λ _. check_children (suc depth) (read w))

unfoldable pub check_module_item : ℕ → Bytes → Verdict
check_module_item t w =
    after (check_header (leb 0x10 t && leb t 0x13) 2) λ _.
    choose (eqb t 0x13) (λ _. check_empty w) λ _. check_pieces 3 (read w)

unfoldable pub check_option : ℕ → ℕ → Bytes → Verdict
check_option from t w =
    after (check_header (leb from t && leb t 0x05) 1) λ _. check_option_by t w (read w)
