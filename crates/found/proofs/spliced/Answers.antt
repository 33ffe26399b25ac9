use Rattle.std.proofs.Common.{rules}
use native.Mathlib.Omega.{arith}
use Rattle.found.proofs.Places.{front_is, front_none}
use Rattle.found.proofs.SpliceLaws.{splice_nothing, splice_none, splice_one, splice_more, splice_plain, splice_rest}
use Rattle.found.proofs.spliced.Goals as goal

pub returns-in-Nothing : goal.returns-in-Nothing
returns-in-Nothing c = splice_nothing _ _ c.requires c.in-Nothing.is c.nowhere.ensures

pub returns-in-Zero : goal.returns-in-Zero
returns-in-Zero c = splice_none _ _ c.requires c.in-Expr.is c.part.ensures c.in-Some-eq118.ensures (omega arith) c.in-Zero.ensures (search rules)

pub returns-in-One : goal.returns-in-One
returns-in-One c = splice_one _ _ c.requires c.in-Expr.is c.part.ensures c.in-Some-eq118.ensures (omega arith) c.in-One.ensures c.place.ensures

pub returns-in-More : goal.returns-in-More
returns-in-More c = splice_more _ _ c.requires c.in-Expr.is c.part.ensures c.in-Some-eq118.ensures (omega arith) c.in-More.ensures c.nowhere-in-More.ensures

pub returns-in_default-field_at : goal.returns-in_default-field_at
returns-in_default-field_at c = splice_plain _ _ c.requires c.in-Expr.is c.part.ensures (front_is c.field_at.ensures c.in_default-field_at.is).tag_is (grind arith)

pub returns-in_default-field_at-2 : goal.returns-in_default-field_at-2
returns-in_default-field_at-2 c = splice_plain _ _ c.requires c.in-Expr.is c.part.ensures (front_none c.field_at.ensures c.in_default-field_at.is).no_tag (λ z. omega (arith, z))

pub returns-in_default : goal.returns-in_default
returns-in_default c = splice_rest _ _ c.requires c.in_default.not-Nothing c.in_default.not-Expr
