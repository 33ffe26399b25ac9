-- `worked::sum_of_field` meets its contract. Assumes nothing.
use native.Mathlib.Omega.{arith}
use Rattle.worked.proofs.Pieces.{no_79, no_piece, no_source, two_pieces, alone}
use Rattle.worked.proofs.sum_of_field.Goals as goal

pub returns-then-field-ne-OTHER_EXPRESSION : goal.returns-then-field-ne-OTHER_EXPRESSION
returns-then-field-ne-OTHER_EXPRESSION c = no_79 _ _ c.if-field-ne-OTHER_EXPRESSION.true

pub returns-in-Some-eq32-None : goal.returns-in-Some-eq32-None
returns-in-Some-eq32-None c = let h = c.in-Some-eq32-None in alone _ _ c.if-field-ne-OTHER_EXPRESSION.false h.ensures (omega arith) h.ensures'.pieces_are c.sum_in.ensures

pub returns-in_default : goal.returns-in_default
returns-in_default c = two_pieces _ _ c.if-field-ne-OTHER_EXPRESSION.false c.in_default.ensures c.in_default.ensures'

pub returns-in_default-2 : goal.returns-in_default-2
returns-in_default-2 c = no_source _ _ c.if-field-ne-OTHER_EXPRESSION.false c.in_default.ensures (λ z. omega arith)

pub returns-in_default-3 : goal.returns-in_default-3
returns-in_default-3 c = no_piece _ _ c.if-field-ne-OTHER_EXPRESSION.false c.in_default.ensures.pieces_are
