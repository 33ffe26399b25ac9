-- The names that are left, seen now, leave what all of them leave.
use Rattle.walk.proofs.ArmLaws.{names_end, names_past, names_low, names_on}
use Rattle.walk.proofs.call.member_names.Goals as goal

pub leaf-cur-requires : goal.leaf-cur-requires
leaf-cur-requires c = names_low _ c.in-Some.ensures.steps _ c.loop-field.invariant c.if-field-eq-IDENT.true c.requires

pub loop-field-preserved-then-field-eq-IDENT : goal.loop-field-preserved-then-field-eq-IDENT
loop-field-preserved-then-field-eq-IDENT c = names_on _ c.in-Some.ensures.steps _ c.loop-field.invariant c.if-field-eq-IDENT.true c.leaf-cur.ensures

pub loop-field-preserved : goal.loop-field-preserved
loop-field-preserved c = names_past _ c.in-Some.ensures.steps _ c.loop-field.invariant c.if-field-eq-IDENT.false

pub returns : goal.returns
returns c = names_end _ _ c.in-None.ensures.steps.ended c.loop-field.invariant
