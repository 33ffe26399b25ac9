-- Expressions and items with what becomes of them, by computation. Assumes nothing.
use mathlib.Core.Path.{◌≡◌, refl}
use mathlib.Core.List.{List, [], ◌∷◌}
use Rattle.field.specs.Bytes.{Bytes, ascii}
use Rattle.page.specs.Number.{whole}
use Rattle.page.specs.Page.{fragment, no_children, container_child, Expr, string_literal, number_literal, minus_literal, array_literal, other_expr, no_items, spread_item, hole_item, no_pieces, source_piece, tag_piece, statement_item}
use Rattle.sums.specs.Choice.{choose, digit}
use Rattle.sums.specs.Value.{upward, downward, difference, added, taken, multiplied, value}
use Rattle.sums.specs.Machine as M
use Rattle.sums.specs.Machine.{sum_with, product_with, closed, step_behind, step, at_end, outcome, found, sum_of}
use Rattle.worked.specs.Worked.{pieces_sum, literal_or, worked_expr, worked_item, worked}

-- a 79 of one source piece
source : Bytes → Expr
source s = other_expr (source_piece s no_pieces)

-- each row: an expression, and what becomes of it
rows : List (Expr × Expr)
rows =
    (source (ascii "2 * 12 + 3"), number_literal (whole 27)) ∷
    (source (ascii "0 - 1"), minus_literal (whole 1)) ∷
    (source (ascii "007"), source (ascii "007")) ∷
    (string_literal (ascii "1"), string_literal (ascii "1")) ∷
    (other_expr (source_piece (ascii "1") (source_piece [] no_pieces)), other_expr (source_piece (ascii "1") (source_piece [] no_pieces))) ∷
    (array_literal (spread_item (source (ascii "1+1")) (hole_item no_items)), array_literal (spread_item (number_literal (whole 2)) (hole_item no_items))) ∷
    (other_expr (tag_piece (fragment (container_child (source (ascii "7")) no_children)) no_pieces), other_expr (tag_piece (fragment (container_child (number_literal (whole 7)) no_children)) no_pieces)) ∷
    []

before : List (Expr × Expr) → List Expr
before [] = []
before ((e, f) ∷ rs) = worked_expr e ∷ before rs

after : List (Expr × Expr) → List Expr
after [] = []
after ((e, f) ∷ rs) = f ∷ after rs

rows_hold : before rows ≡ after rows
unfolding rows source before after worked_expr pieces_sum literal_or sum_of found outcome at_end M.whole step step_behind closed sum_with product_with value upward downward difference added taken multiplied choose digit
rows_hold = refl

-- an item's own source is no sum
item_stays : worked (statement_item (source_piece (ascii "1") no_pieces) ∷ []) ≡ statement_item (source_piece (ascii "1") no_pieces) ∷ []
unfolding worked worked_item worked_expr
item_stays = refl
